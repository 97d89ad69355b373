use Rattle.std.proofs.Common.{lit≤}
use Rattle.cd_lanes.proofs.DiagonalLemmas.{SumsUpTo-none}
use Rattle.cd_lanes.proofs.diagonals.Diagonals.high.Goals as goal

pub returns-clause-taken : goal.returns-clause-taken
returns-clause-taken c =
    rw c.zero.ensures.plain
    (rw c.zero.ensures.weighted (SumsUpTo-none c.args.bytes.now 25 10 (lit≤ tt)))
