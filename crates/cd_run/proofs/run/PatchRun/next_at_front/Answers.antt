use Rattle.std.proofs.Common.{arith}
use Rattle.cd_run.specs.Steps.{WantsMore}
use Rattle.cd_run.proofs.run.PatchRun.next_at_front.Goals as goal

pub returns-then-self-met-clause-next : goal.returns-then-self-met-clause-next
returns-then-self-met-clause-next c = λ left others p is at met rises. (
  WantsMore.patch_meets p others is at (omega (arith, met, c.if-self-met.true)),
  rises,
)
