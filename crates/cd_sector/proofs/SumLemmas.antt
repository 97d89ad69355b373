-- The sum of two sectors, byte by byte: its syndromes and its remainder.
use Rattle.std.proofs.Common.{◌≡◌, ℕ, ◌<◌, List, length, get_or, take, bit_xor, sym, ap, ap₂, ◌∙◌, arith}
use Rattle.std.specs.Int.Bits.{xor_self, xor_zero_r}
use Rattle.std.proofs.lemmas.List.{get_or-take, length-take, length-take-le}
use Rattle.cd_code.specs.Edc.{bits, remainder}
use Rattle.cd_code.specs.Field.{IsSum}
use Rattle.cd_code.specs.Syndrome.{SameSums, IsCodeWord, first_syndrome, second_syndrome}
use Rattle.cd_code.proofs.ByteLemmas.{IsSum-below}
use Rattle.cd_code.proofs.EdcLemmas.{remainder-sum}
use Rattle.cd_code.proofs.SyndromeLemmas.{first_syndrome-sum, second_syndrome-sum}
use Rattle.cd_code.proofs.general.Xor.{same_from_xor}
use Rattle.cd_code.specs.CodeWords.{AllCodeWords, SameSyndromes, bytes_at, column_places, diagonal_places}
use Rattle.cd_code.proofs.PlaceLemmas.{bytes_at-byte, length-bytes_at}

-- if two sectors have the same syndromes, and those of one are all 0, so are those of the other
pub AllCodeWords-same : {s t : List ℕ} → SameSyndromes s t → AllCodeWords t → AllCodeWords s
AllCodeWords-same h k = record {
  columns = λ plane n hp hn.
      let same = h.columns plane n hp hn in
      let word = k.columns plane n hp hn in
      record { first = same.first ∙ word.first; second = same.second ∙ word.second };
  diagonals = λ plane n hp hn.
      let same = h.diagonals plane n hp hn in
      let word = k.diagonals plane n hp hn in
      record { first = same.first ∙ word.first; second = same.second ∙ word.second };
}

-- ---- the syndromes

bytes_at-sum : (u s t ps : List ℕ) → IsSum u s t → (i : ℕ) → i < length (bytes_at u ps)
    → get_or (bytes_at u ps) i 0 ≡ bit_xor (get_or (bytes_at s ps) i 0) (get_or (bytes_at t ps) i 0)
bytes_at-sum u s t ps h i inside =
    let within : i < length ps = (let long = length-bytes_at u ps in omega arith) in
    bytes_at-byte u ps i within
    ∙ h.byte (get_or ps i 0)
    ∙ ap (λ z. bit_xor z (get_or t (get_or ps i 0) 0)) (sym (bytes_at-byte s ps i within))
    ∙ ap (bit_xor (get_or (bytes_at s ps) i 0)) (sym (bytes_at-byte t ps i within))

-- both syndromes of a sum are the sums of the syndromes
sums_add : (u s t ps : List ℕ) → IsSum u s t
    → (first_syndrome (bytes_at u ps)
    ≡ bit_xor (first_syndrome (bytes_at s ps)) (first_syndrome (bytes_at t ps)))
    × (second_syndrome (bytes_at u ps)
    ≡ bit_xor (second_syndrome (bytes_at s ps)) (second_syndrome (bytes_at t ps)))
sums_add u s t ps h =
    let left = length-bytes_at u ps ∙ sym (length-bytes_at s ps) in
    let right = length-bytes_at u ps ∙ sym (length-bytes_at t ps) in (
      first_syndrome-sum (bytes_at u ps) (bytes_at s ps) (bytes_at t ps) left right
          (bytes_at-sum u s t ps h),
      second_syndrome-sum (bytes_at u ps) (bytes_at s ps) (bytes_at t ps) left right
          (bytes_at-sum u s t ps h),
    )

-- adding a code word to the bytes of a word does not change its syndromes
SameSums-sum : (u s t ps : List ℕ) → IsSum u s t → IsCodeWord (bytes_at t ps)
    → SameSums (bytes_at u ps) (bytes_at s ps)
SameSums-sum u s t ps h word =
    let sums = sums_add u s t ps h in
    record {
      first = sums.0 ∙ ap (bit_xor _) word.first ∙ xor_zero_r _;
      second = sums.1 ∙ ap (bit_xor _) word.second ∙ xor_zero_r _;
    }

pub SameSyndromes-sum : (u s t : List ℕ) → IsSum u s t → AllCodeWords t → SameSyndromes u s
SameSyndromes-sum u s t h words = record {
  columns = λ plane n hp hn. SameSums-sum u s t (column_places plane n) h
      (words.columns plane n hp hn);
  diagonals = λ plane n hp hn. SameSums-sum u s t (diagonal_places plane n) h
      (words.diagonals plane n hp hn);
}

-- the syndromes of two sectors are equal if those of the sum are 0
SameSums-none : (u s t ps : List ℕ) → IsSum u s t → IsCodeWord (bytes_at u ps)
    → SameSums (bytes_at s ps) (bytes_at t ps)
SameSums-none u s t ps h word =
    let sums = sums_add u s t ps h in
    record {
      first = same_from_xor _ _ (sym sums.0 ∙ word.first);
      second = same_from_xor _ _ (sym sums.1 ∙ word.second);
    }

pub SameSyndromes-none : (u s t : List ℕ) → IsSum u s t → AllCodeWords u → SameSyndromes s t
SameSyndromes-none u s t h words = record {
  columns = λ plane n hp hn. SameSums-none u s t (column_places plane n) h
      (words.columns plane n hp hn);
  diagonals = λ plane n hp hn. SameSums-none u s t (diagonal_places plane n) h
      (words.diagonals plane n hp hn);
}

IsCodeWord-sum : (u s t ps : List ℕ) → IsSum u s t → SameSums (bytes_at s ps) (bytes_at t ps)
    → IsCodeWord (bytes_at u ps)
IsCodeWord-sum u s t ps h same =
    let sums = sums_add u s t ps h in
    let p = first_syndrome (bytes_at t ps) in
    let q = second_syndrome (bytes_at t ps) in
    record {
      first = sums.0 ∙ ap (λ n. bit_xor n p) same.first ∙ xor_self p;
      second = sums.1 ∙ ap (λ n. bit_xor n q) same.second ∙ xor_self q;
    }

-- the syndromes of the sum are 0 if those of the two sectors are equal
pub AllCodeWords-sum : (u s t : List ℕ) → IsSum u s t → SameSyndromes s t → AllCodeWords u
AllCodeWords-sum u s t h same = record {
  columns = λ plane n hp hn. IsCodeWord-sum u s t (column_places plane n) h
      (same.columns plane n hp hn);
  diagonals = λ plane n hp hn. IsCodeWord-sum u s t (diagonal_places plane n) h
      (same.diagonals plane n hp hn);
}

-- ---- the remainder of the first bytes

take-sum : (u s t : List ℕ) (n : ℕ) → IsSum u s t → IsSum (take n u) (take n s) (take n t)
take-sum u s t n h =
    IsSum-below (take n u) (take n s) (take n t) n (omega (arith, length-take n u))
    (omega (arith, length-take n s)) (omega (arith, length-take n t))
    (λ i low. get_or-take n u i 0 low ∙ h.byte i
    ∙ sym (ap₂ bit_xor (get_or-take n s i 0 low) (get_or-take n t i 0 low)))

pub remainder_of_sum : (u s t : List ℕ) → IsSum u s t → length u ≡ 2352 → length s ≡ 2352
    → length t ≡ 2352
    → remainder (bits (take 2068 u))
    ≡ bit_xor (remainder (bits (take 2068 s))) (remainder (bits (take 2068 t)))
remainder_of_sum u s t h hu hs ht =
    let long_u = length-take-le 2068 u (omega (arith, hu)) in
    remainder-sum (take 2068 u) (take 2068 s) (take 2068 t)
    (long_u ∙ sym (length-take-le 2068 s (omega (arith, hs))))
    (long_u ∙ sym (length-take-le 2068 t (omega (arith, ht))))
    (take-sum u s t 2068 h)
