use Rattle.std.proofs.Common.{rules}
use Rattle.cd_program.proofs.jobs.image_at.Goals as goal

pub returns-then-eq-clause-asked : goal.returns-then-eq-clause-asked
returns-then-eq-clause-asked g c =
    record { standard = λ _. c.standard_input.ensures.gives; file = search rules }

pub returns-else-eq-clause-asked : goal.returns-else-eq-clause-asked
returns-else-eq-clause-asked g c =
    record { standard = search rules; file = λ _. c.input_at.ensures.gives }
