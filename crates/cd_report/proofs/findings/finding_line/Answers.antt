use Rattle.std.proofs.Common.{rules}
use Rattle.cd_report.specs.AuditText.{finding_line}
use Rattle.cd_report.proofs.findings.finding_line.Goals as goal

pub returns-clause-line : goal.returns-clause-line
unfolding finding_line
returns-clause-line c = search rules
