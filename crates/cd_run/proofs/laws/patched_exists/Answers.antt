use Rattle.cd_run.proofs.PatchedLemmas.{IsPatched-exists}
use Rattle.cd_run.proofs.laws.patched_exists.Goals as goal

pub returns : goal.returns
returns c = IsPatched-exists
