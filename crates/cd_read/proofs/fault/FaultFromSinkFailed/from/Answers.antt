use Rattle.std.proofs.Common.{refl}
use Rattle.cd_read.proofs.fault.FaultFromSinkFailed.from.Goals as goal

pub returns : goal.returns
returns c = refl
