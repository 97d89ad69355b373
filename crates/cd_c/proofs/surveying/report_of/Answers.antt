use Rattle.std.proofs.Common.{rules}
use Rattle.cd_report.specs.AuditText.{report_of}
use Rattle.cd_c.proofs.surveying.report_of.Goals as goal

pub returns : goal.returns
unfolding report_of
returns c = search rules
