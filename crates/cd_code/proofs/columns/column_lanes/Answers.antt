use Rattle.std.proofs.Common.{◌+◌, take}
use Rattle.std.proofs.lemmas.List.{take_all}
use Rattle.cd_code.specs.LaneWords.{column_of_rows}
use Rattle.cd_code.proofs.ColumnLemmas.{column_of_rows-more}
use Rattle.cd_code.proofs.columns.column_lanes.Goals as goal

pub loop-row-preserved : goal.loop-row-preserved
loop-row-preserved c =
    let rows = c.args.rows.now in
    let k = c.loop-row.row-index in
    c.with_row-lanes.ensures (column_of_rows (take k rows))
    (column_of_rows (take (k + 1) rows)) c.loop-row.invariant
    (λ n h. column_of_rows-more rows _ k n c.loop-row-test.true)

pub returns : goal.returns
returns c =
    let all = take_all c.loop-row.row-index c.args.rows.now c.loop-row-test.false in
    rw all at c.loop-row.invariant
