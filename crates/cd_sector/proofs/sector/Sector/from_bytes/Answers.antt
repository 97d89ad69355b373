use Rattle.std.proofs.Common.{refl}
use Rattle.cd_sector.proofs.sector.Sector.from_bytes.Goals as goal

pub returns-clause-bytes : goal.returns-clause-bytes
returns-clause-bytes c = refl
