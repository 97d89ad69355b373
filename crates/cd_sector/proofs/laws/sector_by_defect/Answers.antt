use Rattle.cd_sector.proofs.CarriedLemmas.{sector_by_defect}
use Rattle.cd_sector.proofs.laws.sector_by_defect.Goals as goal

pub returns : goal.returns
returns c = sector_by_defect
