use Rattle.std.proofs.Common.{◌≡◌, ◌+◌, arith, lit≤}
use Rattle.cd_lanes.proofs.DiagonalLemmas.{SumsOf-rising}
use Rattle.cd_lanes.proofs.diagonals.high_input_sums.Goals as goal

pub returns : goal.returns
returns c =
    let last = c.epilogue-2.result in
    let top : last.top ≡ 25 = omega arith in
    SumsOf-rising c.args.bytes.now last.top 68 32 (λ i. 20 + i) last.sums.plain last.sums.weighted
    c.rising.result.plain c.rising.result.weighted
    (lit≤ tt) (λ i h. (omega arith, (omega arith, omega arith))) c.epilogue-2.ensures.taken
    c.rising.ensures.plain c.rising.ensures.weighted
