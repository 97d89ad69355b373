use Rattle.std.proofs.Common.{rules}
use Rattle.cd_read.proofs.reading.read_sector.Goals as goal

pub returns : goal.returns
returns g c = search (rules, c.with_bytes_mut.ensures)
