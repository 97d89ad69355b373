use Rattle.cd_run.proofs.PatchedLemmas.{IsPatched-carries}
use Rattle.cd_run.proofs.laws.patched_carries.Goals as goal

pub returns : goal.returns
returns c = IsPatched-carries
