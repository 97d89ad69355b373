use Rattle.std.proofs.Common.{lit≤}
use Rattle.std.proofs.Math.Nat.{zero-add}
use Rattle.cd_code.proofs.ColumnLemmas.{AreSums-row}
use Rattle.cd_code.proofs.columns.ColumnLanes.with_row.Goals as goal

pub returns : goal.returns
returns c = λ word longer are more.
    let row = c.args.row.now in
    record {
      front =
          simp zero-add at (AreSums-row word longer 0 row c.lanes_at.result c.args.self.front
          c.with_lanes.result c.fits-row (lit≤ tt) c.lanes_at.ensures more
          (simp zero-add are.front) c.with_lanes.ensures.plain c.with_lanes.ensures.weighted);
      middle =
          AreSums-row word longer 32 row c.lanes_at-2.result c.args.self.middle
          c.with_lanes-2.result c.fits-row (lit≤ tt) c.lanes_at-2.ensures more
          are.middle c.with_lanes-2.ensures.plain c.with_lanes-2.ensures.weighted;
      back =
          AreSums-row word longer 54 row c.lanes_at-3.result c.args.self.back c.with_lanes-3.result
          c.fits-row (lit≤ tt) c.lanes_at-3.ensures more
          are.back c.with_lanes-3.ensures.plain c.with_lanes-3.ensures.weighted;
    }
