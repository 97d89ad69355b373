use Rattle.std.proofs.Common.{◌∙◌, arith}
use Rattle.cd_script.proofs.SplitLemmas.{words-skip}
use Rattle.cd_script.proofs.words.without_spaces.Goals as goal

pub loop-front-preserved : goal.loop-front-preserved
loop-front-preserved c =
    let parts = c.in-Some.ensures.cases in
    let before = c.loop-front.invariant in (
      words-skip c.loop-front.rest.now c.in-Some.front.now c.in-Some.after.now 16 parts.0 parts.1
          (omega (arith, parts.2)) (c.are_spaces.ensures c.if-are_spaces.true) ∙ before.0,
      omega (arith, parts.2, before.1),
    )
