use Rattle.cd_program.specs.Program.{DoesApply}
use Rattle.cd_program.proofs.jobs.open_and_apply.Goals as goal

pub returns-in-Err-image_at : goal.returns-in-Err-image_at
returns-in-Err-image_at g c =
    DoesApply.without_image c.in-Ok.script c.script_at.new.host
    (g.L.Sink.seen c.script_at.new.log) c.in-Ok.ensures.takes
    (c.in-Err-image_at.fault, c.in-Err-image_at.ensures.asked, c.report_open_fault.ensures)

pub returns-in-Err-output_at : goal.returns-in-Err-output_at
returns-in-Err-output_at g c =
    DoesApply.without_output c.in-Ok.script c.script_at.new.host
    (g.L.Sink.seen c.script_at.new.log) c.in-Ok.ensures.takes
    c.in-Ok-image_at.input c.image_at.new.host c.in-Ok-image_at.ensures.asked (
      c.in-Err-output_at.fault,
      c.in-Err-output_at.ensures.gives,
      c.report_open_fault-in-Err-output_at.ensures,
    )

pub returns : goal.returns
returns g c =
    DoesApply.applied c.in-Ok.script c.script_at.new.host
    (g.L.Sink.seen c.script_at.new.log) c.in-Ok.ensures.takes
    c.in-Ok-image_at.input c.image_at.new.host c.in-Ok-image_at.ensures.asked
    c.in-Ok-output_at.output c.output_at.new.self c.in-Ok-output_at.ensures.gives
    (record {
      left = c.run_apply-status.new.image;
      made = c.run_apply-status.new.out;
      applies = c.run_apply-status.ensures;
      last = c.flush_rest.new.out;
      rest = c.flush_rest.ensures;
      back = c.take_back.ensures;
    })
