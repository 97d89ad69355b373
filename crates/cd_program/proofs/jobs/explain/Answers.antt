use Rattle.std.proofs.Common.{arith}
use Rattle.cd_program.proofs.jobs.explain.Goals as goal

pub returns-then-is_ok : goal.returns-then-is_ok
returns-then-is_ok g c = grind arith steps 100000

pub returns : goal.returns
returns g c = grind arith steps 100000
