use Rattle.std.proofs.Common.{arith}
use Rattle.cd_image.proofs.commands.status_of.Goals as goal

pub returns-else-tally-eq0 : goal.returns-else-tally-eq0
returns-else-tally-eq0 c = grind arith
