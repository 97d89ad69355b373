use Rattle.cd_report.proofs.RunningLemmas.{RunsReport-done, RunsReport-failed}
use Rattle.cd_read.proofs.PrintingLemmas.{not-failed}
use Rattle.cd_report.proofs.commands.run_audit.Goals as goal

pub returns-in-Ok : goal.returns-in-Ok
returns-in-Ok g c =
    RunsReport-done _ c.in-Ok.ensures.report c.audit_status_of.ensures
    (not-failed _ c.audit_status_of.ensures)

pub returns-in-Err : goal.returns-in-Err
returns-in-Err g c =
    RunsReport-failed _ c.in-Err.ensures.report c.report_fault.ensures.line
    c.report_fault.ensures.status
