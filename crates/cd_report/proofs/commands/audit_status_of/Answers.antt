use Rattle.std.proofs.Common.{arith}
use Rattle.cd_report.proofs.commands.audit_status_of.Goals as goal

pub returns-else-tally-eq0 : goal.returns-else-tally-eq0
returns-else-tally-eq0 c = grind arith
