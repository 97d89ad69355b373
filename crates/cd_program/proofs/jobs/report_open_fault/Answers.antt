use Rattle.std.proofs.Common.{rules}
use Rattle.cd_program.proofs.jobs.report_open_fault.Goals as goal

pub returns : goal.returns
returns g c = search rules
