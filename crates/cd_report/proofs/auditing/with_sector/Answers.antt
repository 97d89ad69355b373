use Rattle.std.proofs.Common.{rules}
use Rattle.cd_report.proofs.auditing.with_sector.Goals as goal

pub returns-in-Some : goal.returns-in-Some
returns-in-Some c = search rules
