-- The two syndromes of a list of bytes, and its code words (ECMA-130, Annex A).
use Rattle.std.specs.Prelude.{◌≡◌, ℕ, ◌+◌, ◌-◌, ◌*◌, List, [], ◌∷◌, ◌++◌, length, map, bit_xor, slice_index, slice_set}
use Rattle.std.specs.List.{range_with_len}
use Rattle.cd_code.specs.Field.{AreBytes, product, power}

-- the sum of all bytes
unfoldable pub first_syndrome : List ℕ → ℕ
first_syndrome [] = 0
first_syndrome (x ∷ xs) = bit_xor x (first_syndrome xs)

-- the sum of the L bytes times alpha^(L-1), .., alpha, 1
unfoldable pub second_syndrome : List ℕ → ℕ
second_syndrome [] = 0
second_syndrome (x ∷ xs) = bit_xor (product (power (length xs)) x) (second_syndrome xs)

-- both syndromes are 0
pub record IsCodeWord (v : List ℕ) : Type 0 where
  pub first : first_syndrome v ≡ 0
  pub second : second_syndrome v ≡ 0

-- any list with these two syndromes, followed by the bytes `a` and `b`, is a code word
abbrev pub IsPair : ℕ → ℕ → ℕ → ℕ → Type 0
IsPair plain weighted a b =
    (v : List ℕ) → AreBytes v → first_syndrome v ≡ plain → second_syndrome v ≡ weighted
    → IsCodeWord (v ++ a ∷ b ∷ [])

-- two lists have the same syndromes
pub record SameSums (v w : List ℕ) : Type 0 where
  pub first : first_syndrome v ≡ first_syndrome w
  pub second : second_syndrome v ≡ second_syndrome w

-- the list with `d` added to the byte at a place
abbrev pub with_added : List ℕ → ℕ → ℕ → List ℕ
with_added v place d = slice_set v place (bit_xor (slice_index v place) d)

-- in a word of `len` bytes: if `d` is added to the byte at `place`, `a` to the first parity byte
-- and `b` to the second (the last two bytes of the word), both syndromes stay the same
pub record Balances (len place d a b : ℕ) : Type 0 where
  pub keeps : (v : List ℕ) → AreBytes v → length v ≡ len
      → SameSums (with_added (with_added (with_added v place d) (len - 2) a) (len - 1) b) v

-- column c of 26 rows of 86 bytes
abbrev pub column : List ℕ → ℕ → List ℕ
column rows c = map (λ m. slice_index rows (86 * m + c)) (range_with_len 0 26)
