use Rattle.cd_sector.proofs.CarriedExistence.{carried_found}
use Rattle.cd_sector.proofs.laws.carried_exists.Goals as goal

pub returns : goal.returns
returns c = carried_found
