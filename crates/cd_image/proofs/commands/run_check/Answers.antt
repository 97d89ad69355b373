use Rattle.cd_image.proofs.RunningLemmas.{RunsApply-done, RunsApply-failed, RunsCheck-of}
use Rattle.cd_image.proofs.commands.run_check.Goals as goal

pub returns-in-Ok : goal.returns-in-Ok
returns-in-Ok g c =
    RunsCheck-of
    (RunsApply-done _ c.in-Ok.ensures.report.3 (λ carries bytes earlier are gives holds. cc)
    c.status_of.ensures)

pub returns-in-Err : goal.returns-in-Err
returns-in-Err g c =
    RunsCheck-of
    (RunsApply-failed _ c.in-Err.ensures.report.3 c.report_fault.ensures.line
    c.report_fault.ensures.status)
