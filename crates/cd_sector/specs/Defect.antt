-- The defect of a sector: four parts, which are all 0 in a sound sector (ECMA-130, 14 and Annex A).
use Rattle.std.specs.Prelude.{ℕ, ◌==◌, Bool, not, ◌&&◌, ◌||◌, if◌then◌else◌, List, map, take, slice_range}
use Rattle.std.specs.List.{list_all, range_with_len}
use Rattle.cd_code.specs.Edc.{bits, remainder}
use Rattle.cd_code.specs.Syndrome.{first_syndrome, second_syndrome}
use Rattle.cd_code.specs.CodeWords.{column_of, diagonal_of}

-- the bytes of the Intermediate field (`zeros`), the remainder when bytes 0 to 2067 are divided by
-- the EDC's generator (`rest`), and both syndromes of each code word
pub record Defect : Type 0 where
  pub zeros : List ℕ
  pub rest : ℕ
  pub columns : List (ℕ × ℕ)
  pub diagonals : List (ℕ × ℕ)

-- both syndromes of each of `count` words
unfoldable pub all_syndromes : (ℕ → List ℕ) → ℕ → List (ℕ × ℕ)
all_syndromes word count =
    map (λ i. (first_syndrome (word i), second_syndrome (word i))) (range_with_len 0 count)

-- the defect of a sector of any kind
unfoldable pub defect_of : List ℕ → Defect
defect_of s = record {
  zeros = slice_range s 2068 2076;
  rest = remainder (bits (take 2068 s));
  columns = all_syndromes (column_of s) 86;
  diagonals = all_syndromes (diagonal_of s) 52;
}

-- whether a number is not 0
abbrev pub is_nonzero : ℕ → Bool
is_nonzero x = not (x == 0)

-- a word whose syndromes are not both 0
abbrev pub is_broken : ℕ × ℕ → Bool
is_broken sums = is_nonzero sums.0 || is_nonzero sums.1

-- 1 for a word whose syndromes are not both 0, else 0
abbrev pub broken_mark : List ℕ → ℕ
broken_mark word = if is_broken (first_syndrome word, second_syndrome word) then 1 else 0

-- every part is 0
abbrev pub is_sound : Defect → Bool
is_sound defect =
    ((list_all (λ b. b == 0) defect.zeros && (defect.rest == 0))
    && list_all (λ w. not (is_broken w)) defect.columns)
    && list_all (λ w. not (is_broken w)) defect.diagonals
