use Rattle.std.proofs.Common.{◌≤◌, arith}
use Rattle.cd_lanes.proofs.DiagonalLemmas.{SumsUpTo-begin}
use Rattle.cd_lanes.proofs.diagonals.Diagonals.steady.Goals as goal

pub loop-step-preserved : goal.loop-step-preserved
loop-step-preserved c =
    let sums = c.loop-step.sums in
    let new = c.with_lanes-sums.result in
    let from : c.args.self.step ≤ c.loop-step.step = c.loop-step.auto.step in
    SumsUpTo-begin c.args.bytes.now c.args.self.top c.loop-step.step sums.plain sums.weighted
    c.lane_window.result new.plain new.weighted c.fits-bytes c.args.self.least (omega arith)
    c.loop-step.invariant (λ i h begun. c.lane_window.ensures i h)
    (λ i h before. absurd (omega arith))
    c.with_lanes-sums.ensures.plain c.with_lanes-sums.ensures.weighted
