use Rattle.std.proofs.Common.{rules}
use Rattle.cd_stream.proofs.adapters.from_read.FromRead.new.Goals as goal

pub returns : goal.returns
returns g c = search rules
