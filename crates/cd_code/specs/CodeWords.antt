-- The code words of a sector, each a list of places in it (ECMA-130, Annex A). Bytes 12 to 2351 are
-- two planes of 1170 places: the low and the high bytes of the words S(n).
use Rattle.std.specs.Prelude.{◌≡◌, ℕ, ◌+◌, ◌*◌, ◌/◌, ◌%◌, ◌<◌, List, [], ◌∷◌, ◌++◌, map, slice_index}
use Rattle.std.specs.List.{range_with_len}
use Rattle.cd_code.specs.Syndrome.{IsCodeWord, SameSums, first_syndrome, second_syndrome}

-- the place in the sector of place n of a plane, 0 or 1
abbrev pub place_of : ℕ → ℕ → ℕ
place_of plane n = 12 + 2 * n + plane

-- P: column n, of 43, with its two parity bytes last
unfoldable pub column_places : ℕ → ℕ → List ℕ
column_places plane n = map (λ m. place_of plane (43 * m + n)) (range_with_len 0 26)

-- P: column n, of 43, without its two parity bytes
unfoldable pub column_input : ℕ → ℕ → List ℕ
column_input plane n = map (λ m. place_of plane (43 * m + n)) (range_with_len 0 24)

-- Q: diagonal n, of 26, without its parity
unfoldable pub diagonal_input : ℕ → ℕ → List ℕ
diagonal_input plane n = map (λ m. place_of plane ((44 * m + 43 * n) % 1118)) (range_with_len 0 43)

-- Q: the two parity bytes of diagonal n
abbrev pub diagonal_pair : ℕ → ℕ → List ℕ
diagonal_pair plane n = place_of plane (1118 + n) ∷ place_of plane (1144 + n) ∷ []

-- Q: diagonal n, of 26, with its two parity bytes last
unfoldable pub diagonal_places : ℕ → ℕ → List ℕ
diagonal_places plane n = diagonal_input plane n ++ diagonal_pair plane n

-- the bytes of a sector at these places
unfoldable pub bytes_at : List ℕ → List ℕ → List ℕ
bytes_at sector places = map (λ p. slice_index sector p) places

-- P: the bytes of column i of 86, which is number i / 2 of plane i % 2
abbrev pub column_of : List ℕ → ℕ → List ℕ
column_of s i = bytes_at s (column_places (i % 2) (i / 2))

-- Q: the bytes of diagonal i of 52, which is number i / 2 of plane i % 2
abbrev pub diagonal_of : List ℕ → ℕ → List ℕ
diagonal_of s i = bytes_at s (diagonal_places (i % 2) (i / 2))

-- two sectors have the same 276 syndromes
pub record SameSyndromes (s t : List ℕ) : Type 0 where
  pub columns : (plane n : ℕ) → plane < 2 → n < 43
      → SameSums (bytes_at s (column_places plane n)) (bytes_at t (column_places plane n))
  pub diagonals : (plane n : ℕ) → plane < 2 → n < 26
      → SameSums (bytes_at s (diagonal_places plane n)) (bytes_at t (diagonal_places plane n))

-- all 86 columns and 52 diagonals are code words
pub record AllCodeWords (s : List ℕ) : Type 0 where
  pub columns : (plane n : ℕ) → plane < 2 → n < 43 → IsCodeWord (bytes_at s (column_places plane n))
  pub diagonals : (plane n : ℕ) → plane < 2 → n < 26
      → IsCodeWord (bytes_at s (diagonal_places plane n))

-- `plain` and `weighted` are the two syndromes of the first `count` of these words
pub record SumsOf (word : ℕ → List ℕ) (count : ℕ) (plain weighted : List ℕ) : Type 0 where
  pub first : (i : ℕ) → i < count → slice_index plain i ≡ first_syndrome (word i)
  pub second : (i : ℕ) → i < count → slice_index weighted i ≡ second_syndrome (word i)
