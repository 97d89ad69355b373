use Rattle.std.proofs.Common.{◌≡◌, ℕ, ◌/◌, ◌<◌, length, ap, ◌∙◌}
use Rattle.cd_code.specs.LaneWords.{column_of_rows}
use Rattle.cd_code.specs.Syndrome.{column, first_syndrome, second_syndrome}
use Rattle.cd_code.proofs.ColumnLemmas.{column_of_chunks}
use Rattle.cd_code.proofs.columns.column_sums.Goals as goal

same_column : (c : goal.After-sums) (n : ℕ) → n < 86
    → column_of_rows c.as_chunks.result.0.now n ≡ column c.args.rows.now n
same_column c n h =
    let rows = c.args.rows.now in
    let number : length rows / 86 ≡ 26 = ap (λ k. k / 86) c.told-rows in
    column_of_chunks rows c.as_chunks.result.0.now
    (length rows / 86) n c.as_chunks.ensures.front number c.as_chunks.ensures.front_len h

pub returns-clause-plain : goal.returns-clause-plain
returns-clause-plain c = λ n h.
    (c.sums.ensures (column_of_rows c.as_chunks.result.0.now) c.column_lanes.ensures n h).0
    ∙ ap first_syndrome (same_column c n h)

pub returns-clause-weighted : goal.returns-clause-weighted
returns-clause-weighted c = λ n h.
    (c.sums.ensures (column_of_rows c.as_chunks.result.0.now) c.column_lanes.ensures n h).1
    ∙ ap second_syndrome (same_column c n h)
