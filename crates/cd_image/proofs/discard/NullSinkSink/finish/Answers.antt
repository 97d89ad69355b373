use Rattle.std.proofs.Common.{rules}
use Rattle.cd_image.proofs.discard.NullSinkSink.finish.Goals as goal

pub returns : goal.returns
returns c = search rules
