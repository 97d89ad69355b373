use Rattle.std.proofs.Common.{rules}
use Rattle.cd_stream.proofs.adapters.slice_sink.SliceSink.new.Goals as goal

pub returns-clause-seen : goal.returns-clause-seen
returns-clause-seen c = search rules
