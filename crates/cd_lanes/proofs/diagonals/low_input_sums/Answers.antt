use Rattle.std.proofs.Common.{◌≡◌, arith, lit≤}
use Rattle.cd_lanes.proofs.DiagonalLemmas.{SumsOf-rising}
use Rattle.cd_lanes.proofs.diagonals.low_input_sums.Goals as goal

pub returns : goal.returns
returns c =
    let last = c.epilogue.result in
    let top : last.top ≡ 15 = omega arith in
    SumsOf-rising c.args.bytes.now last.top 52 20 (λ i. i) last.sums.plain last.sums.weighted
    c.rising.result.plain c.rising.result.weighted
    (lit≤ tt) (λ i h. (omega arith, (omega arith, omega arith))) c.epilogue.ensures.taken
    c.rising.ensures.plain c.rising.ensures.weighted
