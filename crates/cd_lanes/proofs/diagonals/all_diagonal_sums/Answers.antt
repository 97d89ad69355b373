use Rattle.std.proofs.Common.{◌≡◌, ℕ, ◌+◌, ◌<◌, get_or, ap, ◌∙◌, arith, lit≤}
use Rattle.cd_code.specs.CodeWords.{diagonal_of}
use Rattle.cd_lanes.proofs.DiagonalLemmas.{SumsOf-joined, SumsOf-parity}
use Rattle.cd_lanes.proofs.diagonals.all_diagonal_sums.Goals as goal

pub returns : goal.returns
returns c =
    let s = c.args.bytes.now in
    let low = c.with_lanes-low.result in
    let high = c.with_lanes-high.result in
    let first : (i : ℕ) → i < 32 → get_or c.lanes_at-3.result i 0 ≡ get_or s (2248 + (20 + i)) 0 =
    λ i h. c.lanes_at-3.ensures i h
    ∙ (let e : 2268 + i ≡ 2248 + (20 + i) = omega arith in ap (λ p. get_or s p 0) e) in
    let second : (i : ℕ) → i < 32 → get_or c.lanes_at-4.result i 0 ≡ get_or s (2300 + (20 + i)) 0 =
    λ i h. c.lanes_at-4.ensures i h
    ∙ (let e : 2320 + i ≡ 2300 + (20 + i) = omega arith in ap (λ p. get_or s p 0) e) in
    SumsOf-joined (diagonal_of s) low.plain low.weighted high.plain high.weighted
    c.join_halves.result.plain c.join_halves.result.weighted
    (SumsOf-parity s 20 (λ i. i) c.lanes_at.result c.lanes_at-2.result c.low_input_sums.result.plain
    c.low_input_sums.result.weighted
    c.with_lanes.result.plain c.with_lanes.result.weighted low.plain low.weighted (lit≤ tt)
    c.low_input_sums.ensures c.fits-bytes
    c.lanes_at.ensures c.lanes_at-2.ensures c.with_lanes.ensures.plain c.with_lanes.ensures.weighted
    c.with_lanes-low.ensures.plain c.with_lanes-low.ensures.weighted)
    (SumsOf-parity s 32 (λ i. 20 + i) c.lanes_at-3.result c.lanes_at-4.result
    c.high_input_sums.result.plain c.high_input_sums.result.weighted
    c.with_lanes-2.result.plain c.with_lanes-2.result.weighted high.plain high.weighted (lit≤ tt)
    c.high_input_sums.ensures c.fits-bytes
    first second c.with_lanes-2.ensures.plain c.with_lanes-2.ensures.weighted
    c.with_lanes-high.ensures.plain c.with_lanes-high.ensures.weighted)
    c.join_halves.ensures.plain_low c.join_halves.ensures.plain_high
    c.join_halves.ensures.weighted_low c.join_halves.ensures.weighted_high
