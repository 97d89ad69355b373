use Rattle.std.proofs.Common.{rules}
use Rattle.cd_program.proofs.process.run_or_explain.Goals as goal

pub returns-in-Err-2-clause-no_text : goal.returns-in-Err-2-clause-no_text
returns-in-Err-2-clause-no_text g c = search rules

pub returns-in-Ok-clause-does : goal.returns-in-Ok-clause-does
returns-in-Ok-clause-does g c = search rules

pub returns-in-Err-clause-no_memory : goal.returns-in-Err-clause-no_memory
returns-in-Err-clause-no_memory g c =
    rw c.in-Err.is
    (λ memory. (rw (← c.as_bytes.ensures.value) c.print_and_fail.ensures.line, c.print_and_fail.ensures.status))
