use Rattle.cd_script.proofs.VersionLemmas.{second-extends}
use Rattle.cd_script.proofs.laws.second_extends.Goals as goal

pub returns : goal.returns
returns c = second-extends
