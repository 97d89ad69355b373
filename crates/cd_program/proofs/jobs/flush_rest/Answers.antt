use Rattle.std.proofs.Common.{inl, inr, rules}
use Rattle.cd_program.proofs.jobs.flush_rest.Goals as goal

pub returns-then-failures-eq0 : goal.returns-then-failures-eq0
returns-then-failures-eq0 g c = record {
  idle = λ h. elim h [ inl e ↦ absurd (search rules) | inr n ↦ absurd (n (search rules)) ];
  once = λ _ _. (c.finish.result, c.finish.ensures);
}
