use Rattle.std.proofs.Common.{rules, tests}
use Rattle.cd_report.specs.AuditText.{findings_of}
use Rattle.cd_c.proofs.surveying.findings_of.Goals as goal

pub returns : goal.returns
unfolding findings_of
returns c = search (tests, rules)
