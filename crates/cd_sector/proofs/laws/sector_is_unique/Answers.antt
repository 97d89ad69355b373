use Rattle.cd_sector.proofs.SectorLemmas.{sector_unique}
use Rattle.cd_sector.proofs.laws.sector_is_unique.Goals as goal

pub returns : goal.returns
returns c = sector_unique
