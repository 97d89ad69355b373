use Rattle.std.proofs.Common.{rules}
use Rattle.cd_stream.proofs.adapters.zero_source.ZeroSource.new.Goals as goal

pub returns : goal.returns
returns c = search rules
