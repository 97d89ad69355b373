use Rattle.cd_script.proofs.ByLineLemmas.{reads-by_line}
use Rattle.cd_script.proofs.laws.reads_by_line.Goals as goal

pub returns : goal.returns
returns c = reads-by_line
