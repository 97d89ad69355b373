use Rattle.std.proofs.Common.{rules, tests}
use Rattle.cd_report.proofs.findings.send_findings.Goals as goal

pub returns-in_default : goal.returns-in_default
returns-in_default g c = search (tests, rules)
