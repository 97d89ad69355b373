use Rattle.cd_patch.proofs.CarryLemmas.{nothing-to_carry}
use Rattle.cd_patch.proofs.laws.nothing_to_carry.Goals as goal

pub returns : goal.returns
returns c = nothing-to_carry
