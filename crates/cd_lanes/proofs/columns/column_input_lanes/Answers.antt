use Rattle.std.proofs.Common.{◌≡◌, ◌/◌, ◌%◌, length, take, drop}
use Rattle.cd_code.specs.LaneWords.{column_of_rows}
use Rattle.cd_code.specs.CodeWords.{bytes_at, column_input}
use Rattle.cd_lanes.proofs.SumLemmas.{AreColumns-same, column_of_input, rows_of_columns}
use Rattle.cd_lanes.proofs.columns.column_input_lanes.Goals as goal

pub returns : goal.returns
returns c =
    let s = c.args.bytes.now in
    let chunks = c.as_chunks.result.0.now in
    let n = length (take 2064 (drop 12 s)) / 86 in
    let number : n ≡ 24 = rows_of_columns s c.told-bytes in
    AreColumns-same (column_of_rows chunks) (λ i. bytes_at s (column_input (i % 2) (i / 2)))
    c.column_lanes.result
    (λ k h. column_of_input s chunks n k c.as_chunks.ensures.front number
    c.as_chunks.ensures.front_len h) c.column_lanes.ensures
