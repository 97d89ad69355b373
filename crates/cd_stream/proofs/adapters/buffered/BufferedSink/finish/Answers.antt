use Rattle.std.proofs.Common.{rules}
use Rattle.cd_stream.proofs.adapters.buffered.BufferedSink.finish.Goals as goal

pub returns-in_err-finish-clause-flushes : goal.returns-in_err-finish-clause-flushes
returns-in_err-finish-clause-flushes g c = search rules

pub returns-clause-flushes : goal.returns-clause-flushes
returns-clause-flushes g c = search rules

pub returns-clause-below : goal.returns-clause-below
returns-clause-below g c = search rules
