use Rattle.cd_program.specs.Program.{DoesReport}
use Rattle.cd_program.proofs.jobs.open_and_list.Goals as goal

pub returns-in-Ok : goal.returns-in-Ok
returns-in-Ok g c =
    DoesReport.reported c.in-Ok.image c.run_list.new.image c.in-Ok.ensures.asked c.run_list.ensures
