use Rattle.std.proofs.Common.{arith}
use Rattle.cd_script.proofs.EightLemmas.{eights-more}
use Rattle.cd_script.proofs.cutting.passed_by_eights.Goals as goal

pub loop-eight-preserved : goal.loop-eight-preserved
loop-eight-preserved c =
    let parts = c.in-Some.ensures.cases in
    let before = c.loop-eight.invariant in
    eights-more c.args.text.now c.in-Some.eight.now c.in-Some.after.now c.loop-eight.rest.now
    c.loop-eight.passed before.0 before.1 before.2 parts.0 parts.1 (omega (arith, parts.2))
    (c.are_printed.ensures c.if-not-are_printed.false)
