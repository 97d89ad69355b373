use Rattle.cd_sector.proofs.CarriedLemmas.{carried_unique}
use Rattle.cd_sector.proofs.laws.carried_is_unique.Goals as goal

pub returns : goal.returns
returns c = carried_unique
