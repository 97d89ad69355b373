use Rattle.cd_program.specs.Program.{DoesCheck}
use Rattle.cd_program.proofs.jobs.open_and_check.Goals as goal

pub returns-in-Err-image_at : goal.returns-in-Err-image_at
returns-in-Err-image_at g c =
    DoesCheck.without_image c.in-Ok.script c.script_at.new.host
    (g.L.Sink.seen c.script_at.new.log) c.in-Ok.ensures.takes
    (c.in-Err-image_at.fault, c.in-Err-image_at.ensures.asked, c.report_open_fault.ensures)

pub returns : goal.returns
returns g c =
    DoesCheck.checked c.in-Ok.script c.script_at.new.host
    (g.L.Sink.seen c.script_at.new.log) c.in-Ok.ensures.takes
    c.in-Ok-image_at.image c.run_check.new.image c.in-Ok-image_at.ensures.asked
    c.run_check.ensures
