use Rattle.cd_sector.proofs.ExistenceLemmas.{sector_found}
use Rattle.cd_sector.proofs.laws.sector_exists.Goals as goal

pub returns : goal.returns
returns c = sector_found
