use Rattle.std.proofs.Common.{refl}
use Rattle.cd_stream.proofs.adapters.fail_after.FailAfter.new.Goals as goal

pub returns-clause-limit : goal.returns-clause-limit
returns-clause-limit g c = refl
