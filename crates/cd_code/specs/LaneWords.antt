-- Plumbing of `column_lanes` and `LaneSums`: words whose syndromes are side by side in registers
-- (ECMA-130, Annex A).
use Rattle.std.specs.Prelude.{◌≡◌, ℕ, ◌+◌, ◌<◌, List, map, slice_index}
use Rattle.cd_code.specs.Syndrome.{first_syndrome, second_syndrome}
use Rattle.cd_code.specs.declared.columns.ColumnLanes.{ColumnLanes}
use Rattle.cd_code.specs.declared.lane_sums.LaneSums.{LaneSums}

-- the sums are the syndromes of words 0 to 31
pub record AreSums (word : ℕ → List ℕ) (sums : LaneSums) : Type 0 where
  pub plain : (i : ℕ) → i < 32 → slice_index sums.plain i ≡ first_syndrome (word i)
  pub weighted : (i : ℕ) → i < 32 → slice_index sums.weighted i ≡ second_syndrome (word i)

-- the sums are the syndromes of words 0 to 85
pub record AreColumns (word : ℕ → List ℕ) (lanes : ColumnLanes) : Type 0 where
  pub front : AreSums word lanes.front
  pub middle : AreSums (λ i. word (32 + i)) lanes.middle
  pub back : AreSums (λ i. word (54 + i)) lanes.back

-- column c of rows
abbrev pub column_of_rows : List (List ℕ) → ℕ → List ℕ
column_of_rows rows c = map (λ row. slice_index row c) rows
