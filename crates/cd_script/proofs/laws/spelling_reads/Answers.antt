use Rattle.cd_script.proofs.SpellingLemmas.{script-spelling}
use Rattle.cd_script.proofs.laws.spelling_reads.Goals as goal

pub returns : goal.returns
returns c = script-spelling
