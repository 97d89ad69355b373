use Rattle.std.proofs.Common.{rules}
use Rattle.cd_stream.proofs.adapters.slice_source.SliceSource.new.Goals as goal

pub returns : goal.returns
returns c = search rules
