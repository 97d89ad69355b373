use Rattle.std.proofs.Common.{arith, refl}
use Rattle.cd_report.proofs.RunningLemmas.{RunsReport-done, RunsReport-failed}
use Rattle.cd_report.proofs.commands.run_list.Goals as goal

pub returns-in-Ok : goal.returns-in-Ok
returns-in-Ok g c =
    RunsReport-done _ c.in-Ok.ensures.report refl (λ is. absurd (omega (arith, is)))

pub returns-in-Err : goal.returns-in-Err
returns-in-Err g c =
    RunsReport-failed _ c.in-Err.ensures.report c.report_fault.ensures.line
    c.report_fault.ensures.status
