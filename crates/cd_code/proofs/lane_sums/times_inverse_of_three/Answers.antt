use Rattle.std.proofs.Common.{◌<◌, get_or, bit_xor, ap, ◌∙◌, arith}
use Rattle.std.proofs.lemmas.Simd.{Each1-get_or, below_from_Fits}
use Rattle.cd_code.specs.Field.{double}
use Rattle.cd_code.proofs.LaneLemmas.{get_or-doubled, times_inverse}
use Rattle.cd_code.proofs.lane_sums.times_inverse_of_three.Goals as goal
use mir.Syntax.{w8}

pub returns : goal.returns
returns c = λ i h.
    let v = c.args.v in
    let x = get_or v i 0 in
    let x_lt : x < 256 =
    Each1-get_or (λ x. x < 256) v i 0 (omega (arith, c.fits-v.0))
    (below_from_Fits w8 v c.fits-v.1) in
    let two = c.doubled_and_added-two.ensures i h in
    let three = c.doubled_and_added-three.ensures i h ∙ ap (λ z. bit_xor (double z) x) two in
    let four = c.doubled_and_added-four.ensures i h ∙ ap (λ z. bit_xor (double z) x) three in
    let moved =
    ap (λ u. get_or u i 0) c.doubled_lanes.ensures
    ∙ get_or-doubled c.doubled_and_added-four.result i ∙ ap double four in
    let five = c.doubled_and_added-five.ensures i h ∙ ap (λ z. bit_xor (double z) x) moved in
    let once =
    ap (λ u. get_or u i 0) c.doubled_lanes-2.ensures
    ∙ get_or-doubled c.doubled_and_added-five.result i ∙ ap double five in
    ap (λ u. get_or u i 0) c.doubled_lanes-3.ensures ∙ get_or-doubled c.doubled_lanes-2.result i
    ∙ ap double once
    ∙ times_inverse x x_lt
