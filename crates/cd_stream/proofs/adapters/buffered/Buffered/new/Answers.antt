use Rattle.std.proofs.Common.{rules}
use Rattle.cd_stream.proofs.adapters.buffered.Buffered.new.Goals as goal

pub returns-clause-seen : goal.returns-clause-seen
returns-clause-seen g c = search rules
