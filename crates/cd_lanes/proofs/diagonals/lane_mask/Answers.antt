use Rattle.std.proofs.Common.{◌+◌, ◌*◌, ◌<◌, ◌≤◌, ◌⊎◌, inl, inr, ◌∙◌, arith}
use Rattle.cd_lanes.proofs.DiagonalLemmas.{lane_mask-yes, lane_mask-no}
use Rattle.cd_lanes.proofs.diagonals.lane_mask.Goals as goal

pub returns-clause-takes : goal.returns-clause-takes
returns-clause-takes c = λ i h low high.
    c.lanes_at.ensures i h ∙ lane_mask-yes (2 * c.args.k + i) (omega arith) (omega arith)

pub returns-clause-leaves : goal.returns-clause-leaves
returns-clause-leaves c = λ i h outside.
    let place : (2 * c.args.k + i < 30) ⊎ (116 ≤ 2 * c.args.k + i) = elim outside [
      | inl before ↦ inl (omega arith)
      | inr past ↦ inr (omega arith)
    ] in
    c.lanes_at.ensures i h ∙ lane_mask-no (2 * c.args.k + i) (omega arith) place
