use Rattle.std.proofs.Common.{take}
use Rattle.cd_code.specs.LaneWords.{AreColumns, column_of_rows}
use Rattle.cd_code.proofs.columns.column_lanes.Given as goal

abbrev pub invariant-loop-row : goal.invariant-loop-row
invariant-loop-row l = AreColumns (column_of_rows (take l.row-index l.rows)) l.lanes
