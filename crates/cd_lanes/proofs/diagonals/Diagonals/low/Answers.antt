use Rattle.std.proofs.Common.{lit<, lit≤}
use Rattle.cd_lanes.proofs.DiagonalLemmas.{SumsUpTo-begin, SumsUpTo-none, corner, corner-none, corner-takes}
use Rattle.cd_lanes.proofs.diagonals.Diagonals.low.Goals as goal

pub returns-clause-taken : goal.returns-clause-taken
returns-clause-taken c =
    let s = c.args.bytes.now in
    let new = c.with_lanes-sums.result in
    SumsUpTo-begin s 15 0 c.zero.result.plain c.zero.result.weighted (corner s) new.plain new.weighted
    c.fits-bytes (lit≤ tt) (lit< tt)
    (rw c.zero.ensures.plain (rw c.zero.ensures.weighted (SumsUpTo-none s 15 0 (lit≤ tt))))
    (corner-takes s) (corner-none s) c.with_lanes-sums.ensures.plain
    c.with_lanes-sums.ensures.weighted
