use Rattle.cd_patch.proofs.CarryLemmas.{never-damaged}
use Rattle.cd_patch.proofs.laws.never_damaged.Goals as goal

pub returns : goal.returns
returns c = never-damaged
