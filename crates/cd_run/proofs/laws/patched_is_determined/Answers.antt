use Rattle.cd_run.proofs.PatchedLemmas.{IsPatched-determined}
use Rattle.cd_run.proofs.laws.patched_is_determined.Goals as goal

pub returns : goal.returns
returns c = IsPatched-determined
