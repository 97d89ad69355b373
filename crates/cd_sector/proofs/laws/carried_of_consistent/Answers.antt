use Rattle.cd_sector.proofs.CarriedLemmas.{carried_consistent}
use Rattle.cd_sector.proofs.laws.carried_of_consistent.Goals as goal

pub returns : goal.returns
returns c = carried_consistent
