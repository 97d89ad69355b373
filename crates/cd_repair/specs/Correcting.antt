-- The damage of a sector that its parity corrects for certain.
use Rattle.std.specs.Prelude.{◌≡◌, ◌≢◌, ℕ, ◌+◌, ◌*◌, ◌<◌, ◌≤◌, ◌⊎◌, true, List, drop, length, slice_index, slice_range}
use Rattle.cd_code.specs.CodeWords.{column_of, diagonal_of}
use Rattle.cd_code.specs.Field.{AreBytes}
use Rattle.cd_code.specs.Syndrome.{IsCodeWord}
use Rattle.std.specs.Int.{from_le_bytes, w32}
use Rattle.cd_sector.specs.Consistent.{consistent, header_of}
use Rattle.cd_sector.specs.Kind.{kind_of}
use Rattle.cd_sector.specs.declared.kinds.SectorKind.TheVariants.{Mode1, NoSync}

-- two words of the same length differ in at most one place
abbrev pub DifferInOne : List ℕ → List ℕ → Type 0
DifferInOne v w =
    (i j : ℕ) → i < length v → j < length v → slice_index v i ≢ slice_index w i
    → slice_index v j ≢ slice_index w j → i ≡ j

-- `s` is the sound sector `t` with light damage: sync field, header and EDC are right, at most one
-- byte of each column is wrong, and at most one of the two Q parity bytes of each diagonal. A single
-- wrong byte outside these fields is light damage, and so are up to 86 in a row in the user data
pub record IsLightDamage (s t : List ℕ) : Type 0 where
  pub bytes : AreBytes s
  pub kind : kind_of s ≡ Mode1
  pub sound : consistent t ≡ true
  pub sync : (k : ℕ) → k < 12 → slice_index s k ≡ slice_index t k
  pub header : header_of s ≡ header_of t
  pub edc : from_le_bytes w32 (slice_range s 2064 2068) ≡ from_le_bytes w32 (slice_range t 2064 2068)
  pub columns : (i : ℕ) → i < 86 → DifferInOne (column_of s i) (column_of t i)
  pub pairs : (i : ℕ) → i < 52 → (slice_index s (2248 + i) ≡ slice_index t (2248 + i))
      ⊎ (slice_index s (2300 + i) ≡ slice_index t (2300 + i))

-- `s` is the sound sector `t` without its sync field
pub record HasLostSync (s t : List ℕ) : Type 0 where
  pub lost : kind_of s ≡ NoSync
  pub sound : consistent t ≡ true
  pub rest : drop 12 s ≡ drop 12 t

-- all columns of `t` are code words, and at most one byte of each column of `s` differs
pub record IsNearColumns (s t : List ℕ) : Type 0 where
  pub left : AreBytes s
  pub right : AreBytes t
  pub code : (i : ℕ) → i < 86 → IsCodeWord (column_of t i)
  pub only : (i : ℕ) → i < 86 → DifferInOne (column_of s i) (column_of t i)

-- plumbing of `correct_columns`: the columns before column `count` are corrected, and no other byte
-- has changed
pub record HasCorrected (old now : List ℕ) (count : ℕ) : Type 0 where
  pub fixed : (t : List ℕ) → IsNearColumns old t → (i m : ℕ) → i < count → m < 26
      → slice_index now (12 + 86 * m + i) ≡ slice_index t (12 + 86 * m + i)
  pub ahead : (i m : ℕ) → count ≤ i → i < 86 → m < 26
      → slice_index now (12 + 86 * m + i) ≡ slice_index old (12 + 86 * m + i)
  pub others : (k : ℕ) → (k < 12) ⊎ (2248 ≤ k) → slice_index now k ≡ slice_index old k

-- all diagonals of `t` are code words, at most one byte of each diagonal of `s` differs, and that is one
-- of its Q parity
pub record IsNearDiagonals (s t : List ℕ) : Type 0 where
  pub left : AreBytes s
  pub right : AreBytes t
  pub code : (i : ℕ) → i < 52 → IsCodeWord (diagonal_of t i)
  pub only : (i : ℕ) → i < 52 → DifferInOne (diagonal_of s i) (diagonal_of t i)
  pub front : (k : ℕ) → k < 2248 → slice_index s k ≡ slice_index t k

-- plumbing of `correct_diagonals`: the diagonals before diagonal `count` are corrected
pub record HasPaired (old now : List ℕ) (count : ℕ) : Type 0 where
  pub fixed : (t : List ℕ) → IsNearDiagonals old t → (i : ℕ) → i < count
      → (slice_index now (2248 + i) ≡ slice_index t (2248 + i))
      × (slice_index now (2300 + i) ≡ slice_index t (2300 + i))
  pub ahead : (t : List ℕ) → IsNearDiagonals old t → (i : ℕ) → count ≤ i → i < 52
      → (slice_index now (2248 + i) ≡ slice_index old (2248 + i))
      × (slice_index now (2300 + i) ≡ slice_index old (2300 + i))
  pub others : (t : List ℕ) → IsNearDiagonals old t → (k : ℕ) → k < 2248
      → slice_index now k ≡ slice_index old k

-- plumbing of `correct_diagonal`: the Q parity of diagonal `i` is that of `t`, and no other byte has
-- changed
pub record IsPairCorrected (old new t : List ℕ) (i : ℕ) : Type 0 where
  pub first : slice_index new (2248 + i) ≡ slice_index t (2248 + i)
  pub second : slice_index new (2300 + i) ≡ slice_index t (2300 + i)
  pub others : (k : ℕ) → k ≢ 2248 + i → k ≢ 2300 + i → slice_index new k ≡ slice_index old k

-- one round over the columns and the diagonals of `s` gives `t`
pub record IsNear (s t : List ℕ) : Type 0 where
  pub size : length t ≡ 2352
  pub columns : IsNearColumns s t
  pub code : (i : ℕ) → i < 52 → IsCodeWord (diagonal_of t i)
  pub pairs : (i : ℕ) → i < 52 → (slice_index s (2248 + i) ≡ slice_index t (2248 + i))
      ⊎ (slice_index s (2300 + i) ≡ slice_index t (2300 + i))
  pub head : (k : ℕ) → k < 12 → slice_index s k ≡ slice_index t k

-- plumbing of `corrected`: after the first round it is `t`
abbrev pub HasRounded : List ℕ → List ℕ → ℕ → Type 0
HasRounded old now n =
    (t : List ℕ) → IsNear old t → (n ≡ 0 → now ≡ old) × (0 < n → now ≡ t)
