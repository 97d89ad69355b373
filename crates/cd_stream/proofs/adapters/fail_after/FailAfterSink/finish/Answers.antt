use Rattle.std.proofs.Common.{rules}
use Rattle.cd_stream.proofs.adapters.fail_after.FailAfterSink.finish.Goals as goal

pub returns-clause-flushes : goal.returns-clause-flushes
returns-clause-flushes g c = search rules

pub returns-clause-within : goal.returns-clause-within
returns-clause-within g c = search rules
