use Rattle.cd_report.proofs.LineCountLemmas.{line_count-audit}
use Rattle.cd_report.proofs.laws.audit_counts_lines.Goals as goal

pub returns : goal.returns
returns c = λ base image low few. line_count-audit base image low few
