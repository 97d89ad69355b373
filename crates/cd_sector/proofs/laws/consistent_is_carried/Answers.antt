use Rattle.cd_sector.proofs.CarriedLemmas.{consistent_carried}
use Rattle.cd_sector.proofs.laws.consistent_is_carried.Goals as goal

pub returns : goal.returns
returns c = consistent_carried
