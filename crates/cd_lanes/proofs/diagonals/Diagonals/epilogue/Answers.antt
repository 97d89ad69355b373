use Rattle.std.proofs.Common.{◌+◌, ◌-◌, ◌/◌, ◌<◌, ◌≤◌, ◌⊎◌, inl, inr, get_or, bit_xor, ap, ◌∙◌, arith}
use Rattle.cd_code.specs.Field.{double}
use Rattle.cd_lanes.proofs.DiagonalLemmas.{SumsUpTo-step}
use Rattle.cd_lanes.proofs.diagonals.Diagonals.epilogue.Goals as goal

pub loop-step-preserved : goal.loop-step-preserved
loop-step-preserved c =
    let top = c.args.self.top in
    let step = c.loop-step.step in
    let sums = c.loop-step.sums in
    let new = c.with_masked_lanes-sums.ensures in
    let from : c.args.self.step ≤ step = c.loop-step.auto.step in
    SumsUpTo-step c.args.bytes.now top step sums.plain sums.weighted
    c.with_masked_lanes-sums.result.plain c.with_masked_lanes-sums.result.weighted c.fits-bytes
    c.args.self.least c.loop-step.invariant
    (λ i h begun running.
    let yes = c.lane_mask.ensures.takes i h (omega arith) (omega arith) in (
      new.plain i h yes ∙ ap (bit_xor (get_or sums.plain i 0)) (c.lane_window-lanes.ensures i h),
      new.weighted i h yes
          ∙ ap (bit_xor (double (get_or sums.weighted i 0))) (c.lane_window-lanes.ensures i h),
    ))
    (λ i h outside.
    let place : (step + 15 - top + i / 2 < 15) ⊎ (58 ≤ step + 15 - top + i / 2) = elim outside [
      | inl before ↦ inl (omega arith)
      | inr past ↦ inr (omega arith)
    ] in
    let no = c.lane_mask.ensures.leaves i h place in
    (new.plain_stays i h no, new.weighted_stays i h no))
