-- Plumbing of the Q parity: sixteen Q diagonals of both planes at a time, one byte of each in a
-- step (ECMA-130, Annex A). Lane i is diagonal top - i / 2 of plane i % 2. Byte t - n of diagonal n
-- is processed in step t, and is in row t % 26.
use Rattle.std.specs.Prelude.{◌≡◌, ℕ, ◌+◌, ◌-◌, ◌*◌, ◌/◌, ◌%◌, ◌<◌, List, slice_index, take}
use Rattle.cd_code.specs.Syndrome.{first_syndrome, second_syndrome}
use Rattle.cd_code.specs.CodeWords.{bytes_at, diagonal_input}

-- the place in the sector of the byte of lane i in a step
abbrev pub lane_place : ℕ → ℕ → ℕ → ℕ
lane_place top step i = 12 + 86 * (step % 26) + 2 * step + i - 2 * top

-- the bytes of lane i in the steps below `step`
abbrev pub bytes_up_to : List ℕ → ℕ → ℕ → ℕ → List ℕ
bytes_up_to s top step i =
    take (step - (top - i / 2)) (bytes_at s (diagonal_input (i % 2) (top - i / 2)))

-- the sums are the syndromes of the bytes of each lane in the steps below `step`
pub record SumsUpTo (s : List ℕ) (top step : ℕ) (plain weighted : List ℕ) : Type 0 where
  pub first : (i : ℕ) → i < 32 → slice_index plain i ≡ first_syndrome (bytes_up_to s top step i)
  pub second : (i : ℕ) → i < 32
      → slice_index weighted i ≡ second_syndrome (bytes_up_to s top step i)
