use Rattle.cd_script.proofs.PatchLemmas.{script-short}
use Rattle.cd_script.proofs.laws.script_is_short.Goals as goal

pub returns : goal.returns
returns c = script-short
