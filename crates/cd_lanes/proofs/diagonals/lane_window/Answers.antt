use Rattle.std.proofs.Common.{◌≡◌, ◌+◌, ◌-◌, ◌*◌, get_or, ap, ◌∙◌, arith}
use Rattle.cd_lanes.specs.DiagonalSteps.{lane_place}
use Rattle.cd_lanes.proofs.diagonals.lane_window.Goals as goal

pub returns : goal.returns
returns c = λ i h.
    let at = 12 + 86 * c.args.row + 2 * c.args.step - 2 * c.args.top in
    let place : at + i ≡ lane_place c.args.top c.args.step i = omega arith in
    c.lanes_at.ensures i h ∙ ap (λ p. get_or c.args.bytes.now p 0) place
