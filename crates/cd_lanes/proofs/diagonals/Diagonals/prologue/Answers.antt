use Rattle.std.proofs.Common.{◌≤◌, inl, ◌∙◌, arith}
use Rattle.cd_lanes.proofs.DiagonalLemmas.{SumsUpTo-begin}
use Rattle.cd_lanes.proofs.diagonals.Diagonals.prologue.Goals as goal

pub loop-step-preserved : goal.loop-step-preserved
loop-step-preserved c =
    let step = c.loop-step.step in
    let sums = c.loop-step.sums in
    let new = c.with_lanes-sums.result in
    let from : c.args.self.step ≤ step = c.loop-step.auto.step in
    SumsUpTo-begin c.args.bytes.now c.args.self.top step sums.plain sums.weighted
    c.mask_lanes.result new.plain new.weighted c.fits-bytes c.args.self.least (omega arith)
    c.loop-step.invariant
    (λ i h begun. c.mask_lanes.ensures.takes i h
    (c.lane_mask.ensures.takes i h (omega arith) (omega arith)) ∙ c.lane_window-lanes.ensures i h)
    (λ i h before. c.mask_lanes.ensures.leaves i h
    (c.lane_mask.ensures.leaves i h (inl (omega arith))))
    c.with_lanes-sums.ensures.plain c.with_lanes-sums.ensures.weighted
