use Rattle.cd_image.proofs.RunningLemmas.{RunsApply-done, RunsApply-failed}
use Rattle.cd_image.proofs.commands.run_apply.Goals as goal

pub returns-in-Ok : goal.returns-in-Ok
returns-in-Ok g c =
    RunsApply-done _ c.in-Ok.ensures.report c.in-Ok.ensures.plain.carried c.status_of.ensures

pub returns-in-Err : goal.returns-in-Err
returns-in-Err g c =
    RunsApply-failed _ c.in-Err.ensures.report c.report_fault.ensures.line
    c.report_fault.ensures.status
