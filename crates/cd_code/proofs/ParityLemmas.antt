-- Parity that is written some pairs at a time, and the code words that result.
use Rattle.std.proofs.Common.{◌≡◌, ℕ, ◌+◌, ◌-◌, ◌/◌, ◌%◌, ◌<◌, ◌≤◌, inl, inr, List, [], ◌∷◌, ◌++◌, length, get_or, take, refl, ap, ◌∙◌, arith}
use Rattle.std.proofs.lemmas.Bool.{cases_lt}
use Rattle.std.proofs.lemmas.List.{take_more}
use Rattle.cd_code.specs.Field.{AreBytes}
use Rattle.cd_code.specs.Syndrome.{IsPair, IsCodeWord, first_syndrome, second_syndrome}
use Rattle.cd_code.specs.Filling.{Filled, PairsPut}
use Rattle.cd_code.specs.CodeWords.{bytes_at, column_input, column_of, diagonal_input, diagonal_of}
use Rattle.cd_code.proofs.PlaceLemmas.{bytes_at-same, AreBytes-bytes_at, length-column_input, column_input_place, length-diagonal_input, diagonal_input_place, column_of-parts, diagonal_of-parts}

-- the first n + 1 bytes of a word: the first n, and byte n from the row
pub take-row : (v : List ℕ) (n byte : ℕ) → n < length v → get_or v n 0 ≡ byte
    → take (n + 1) v ≡ take n v ++ byte ∷ []
take-row v n byte inside e = take_more v n 0 inside ∙ ap (λ b. take n v ++ b ∷ []) e

pub Filled-none : (word : ℕ → List ℕ) (start count : ℕ) (old : List ℕ)
    → Filled word start count 0 old old
Filled-none word start count old =
    record { pairs = λ i h. absurd (omega arith); stays = λ k h. refl }

-- the parity of `width` words is written, of which the first `lanes` are the words from `from` on
pub Filled-put : (word : ℕ → List ℕ) (start count width from lanes n : ℕ) (plain weighted : ℕ → ℕ)
    (old mid new : List ℕ) → from ≤ n → from + width ≤ count → lanes ≤ width
    → ((i : ℕ) → i < lanes → plain i ≡ first_syndrome (word (from + i)))
    → ((i : ℕ) → i < lanes → weighted i ≡ second_syndrome (word (from + i)))
    → PairsPut width (start + from) count plain weighted mid new → Filled word start count n old mid
    → Filled word start count (from + lanes) old new
Filled-put word start count width from lanes n plain weighted old mid new begun room few firsts seconds
    put filled = record {
      pairs = λ i h. elim (cases_lt i from) [
        | inl lower ↦
            let first = put.before (start + i) (omega arith) in
            let second = put.between (start + count + i) (omega arith) (omega arith) in
            rw (first, second) (filled.pairs i (omega arith))
        | inr upper ↦
            let k = i - from in
            let within : k < lanes = omega arith in
            let word_at : from + k ≡ i = omega arith in
            let first_at : start + from + k ≡ start + i = omega arith in
            let second_at : start + from + count + k ≡ start + count + i = omega arith in
            rw (firsts k within, seconds k within, word_at, first_at, second_at) at
            (put.pairs k (omega arith))
      ];
      stays = λ k h. elim h [
        | inl below ↦ put.before k (omega arith) ∙ filled.stays k (inl below)
        | inr past ↦ put.after k (omega arith) ∙ filled.stays k (inr past)
      ];
    }

-- ---- the words with their pairs

-- a word's input followed by its parity is a code word
words_made : (word : List ℕ) (start count i : ℕ) (input old new : List ℕ) → AreBytes old
    → ((m : ℕ) → m < length input → get_or input m 0 < start)
    → word ≡ bytes_at new input ++ get_or new (start + i) 0 ∷ get_or new (start + count + i) 0 ∷ []
    → IsPair (first_syndrome (bytes_at old input)) (second_syndrome (bytes_at old input))
    (get_or new (start + i) 0) (get_or new (start + count + i) 0)
    → ((k : ℕ) → k < start → get_or new k 0 ≡ get_or old k 0) → IsCodeWord word
words_made word start count i input old new bytes before parts pair stays =
    let same = bytes_at-same new old input (λ m h. stays (get_or input m 0) (before m h)) in
    rw (parts, same) (pair (bytes_at old input) (AreBytes-bytes_at old input bytes) refl refl)

pub columns_made : (old new : List ℕ) → AreBytes old
    → Filled (λ i. bytes_at old (column_input (i % 2) (i / 2))) 2076 86 86 old new
    → (i : ℕ) → i < 86 → IsCodeWord (column_of new i)
columns_made old new bytes filled i h =
    words_made (column_of new i) 2076 86 i (column_input (i % 2) (i / 2)) old new bytes
    (λ m inside.
    let long = length-column_input (i % 2) (i / 2) in
    let at = column_input_place (i % 2) (i / 2) m (omega arith) in
    omega arith)
    (column_of-parts new i) (filled.pairs i h) (λ k low. filled.stays k (inl low))

pub diagonals_made : (old new : List ℕ) → AreBytes old
    → Filled (λ i. bytes_at old (diagonal_input (i % 2) (i / 2))) 2248 52 52 old new
    → (i : ℕ) → i < 52 → IsCodeWord (diagonal_of new i)
diagonals_made old new bytes filled i h =
    words_made (diagonal_of new i) 2248 52 i (diagonal_input (i % 2) (i / 2)) old new bytes
    (λ m inside.
    let long = length-diagonal_input (i % 2) (i / 2) in
    let at = diagonal_input_place (i % 2) (i / 2) m (omega arith) in
    omega arith)
    (diagonal_of-parts new i) (filled.pairs i h) (λ k low. filled.stays k (inl low))
