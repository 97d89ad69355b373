-- Lemmas about counting words that are not code words, and about the test of a sector.
use Rattle.std.proofs.Common.{◌≡◌, ℕ, ◌+◌, ◌-◌, ◌/◌, ◌%◌, ◌<◌, ◌≤◌, inl, inr, Bool, true, false, not, ◌&&◌, ◌||◌, cond, Decides, List, [], ◌∷◌, length, get_or, take, drop, refl, sym, ap, ap₂, subst, ◌∙◌, arith, lit<}
use Rattle.std.specs.Bool.{◌==◌, nat_lt}
use Rattle.std.specs.List.{count_by, list_all, list_any, slice_range}
use Rattle.std.proofs.Math.Bool.{and-false}
use Rattle.std.proofs.lemmas.Bool.{cases_lt}
use Rattle.std.proofs.lemmas.Bool.Decides.{Decides-eqb, Decides-ltb, Decides-and, Decides-at, Decides-like, Decides-by_and}
use Rattle.std.proofs.lemmas.List.{get_or_past, get_or_default, get_or-take, get_or-drop, length-take, length-take-le, length-drop}
use Rattle.std.proofs.lemmas.List.Folds.{sum_by-zero}
use Rattle.std.proofs.lemmas.List.FromFn.{sum_by-map-range_with_len_more, get_or-map-range_with_len, length-map-range_with_len}
use Rattle.cd_code.specs.Edc.{bits, remainder}
use Rattle.cd_code.specs.Field.{AreBytes}
use Rattle.cd_code.specs.Syndrome.{IsCodeWord, first_syndrome, second_syndrome}
use Rattle.cd_code.specs.CodeWords.{SumsOf, column_of, diagonal_of}
use Rattle.cd_sector.specs.Consistent.{IsConsistent, consistent, is_mode1}
use Rattle.cd_sector.specs.Defect.{all_syndromes, broken_mark, defect_of, is_broken, is_nonzero, is_sound}
use Rattle.cd_sector.specs.Kind.{kind_of}
use Rattle.cd_sector.specs.declared.kinds.SectorKind.{SectorKind}
use Rattle.cd_sector.specs.declared.kinds.SectorKind.TheVariants.{NoSync, Mode0, Mode1, Mode2, Other}
use Rattle.cd_sector.proofs.ParityLemmas.{AllCodeWords-by_number}

-- ---- counting

pub broken_none : (word : ℕ → List ℕ) → 0 ≡ count_by is_broken (all_syndromes word 0)
unfolding all_syndromes
broken_none word = refl

pub one-le : (b : Bool) (one : ℕ) → one ≡ cond {A = ℕ} b 1 0 → one ≤ 1
one-le true one e = omega (arith, e)
one-le false one e = omega (arith, e)

pub broken_more : (word : ℕ → List ℕ) (count i number one : ℕ) (plain weighted : List ℕ)
    → SumsOf word count plain weighted → i < count
    → number ≡ count_by is_broken (all_syndromes word i)
    → one ≡ cond {A = ℕ} (is_broken (get_or plain i 0, get_or weighted i 0)) 1 0
    → number + one ≡ count_by is_broken (all_syndromes word (i + 1))
unfolding all_syndromes
broken_more word count i number one plain weighted sums h before e =
    ap (λ n. n + one) before
    ∙ ap (λ n. count_by is_broken (all_syndromes word i) + n)
    (e
    ∙ ap (λ a. cond {A = ℕ} (is_broken (a, get_or weighted i 0)) 1 0) (sums.first i h)
    ∙ ap (λ b. cond {A = ℕ} (is_broken (first_syndrome (word i), b)) 1 0) (sums.second i h))
    ∙ sym (sum_by-map-range_with_len_more (λ w. cond {A = ℕ} (is_broken w) 1 0)
    (λ k. (first_syndrome (word k), second_syndrome (word k))) 0 i i (omega arith))

-- the count of broken words, for as many words as there are sums
pub broken_of : (word : ℕ → List ℕ) (count r : ℕ) (plain weighted : List ℕ) → length plain ≡ count
    → SumsOf word count plain weighted
    → (SumsOf word (length plain) plain weighted
    → r ≡ count_by is_broken (all_syndromes word (length plain)))
    → r ≡ count_by is_broken (all_syndromes word count)
broken_of word count r plain weighted long sums h =
    subst (λ n. r ≡ count_by is_broken (all_syndromes word n)) long
    (h (subst (λ n. SumsOf word n plain weighted) (sym long) sums))

-- the marks of as many words as there are sums
pub marks_of : (words : List ℕ → ℕ → List ℕ) (s bytes : List ℕ) (count : ℕ)
    (old new plain weighted : List ℕ) → length old ≡ count → bytes ≡ s
    → SumsOf (words bytes) count plain weighted
    → ((word : ℕ → List ℕ) → SumsOf word (length old) plain weighted
    → (i : ℕ) → i < length old → get_or new i 0 ≡ broken_mark (word i))
    → (i : ℕ) → i < count → get_or new i 0 ≡ broken_mark (words s i)
marks_of words s bytes count old new plain weighted long same sums h i inside =
    ((h (words bytes) (subst (λ n. SumsOf (words bytes) n plain weighted) (sym long) sums) i
    (omega arith))
    ∙ ap (λ b. broken_mark (words b i)) same)

same_all : {X : Type 0} (p q : X → Bool) → ((x : X) → p x ≡ q x) → (xs : List X)
    → list_all p xs ≡ list_all q xs
same_all p q h [] = refl
same_all p q h (x ∷ xs) =
    ap (λ b. b && list_all p xs) (h x) ∙ ap (λ b. q x && b) (same_all p q h xs)

one_or_none : (b : Bool) → (cond {A = ℕ} b 1 0 == 0) ≡ not b
one_or_none true = refl
one_or_none false = refl

-- the number of broken words is 0 exactly if no word is broken
pub none_broken : (ws : List (ℕ × ℕ))
    → (count_by is_broken ws == 0) ≡ list_all (λ w. not (is_broken w)) ws
none_broken ws =
    sum_by-zero (λ w. cond {A = ℕ} (is_broken w) 1 0) ws
    ∙ same_all (λ w. cond {A = ℕ} (is_broken w) 1 0 == 0) (λ w. not (is_broken w))
    (λ w. one_or_none (is_broken w)) ws

not-and : (x y : Bool) → not (x && y) ≡ (not x || not y)
not-and true y = refl
not-and false y = refl

-- not all numbers are 0 exactly if some number is not 0
pub some_nonzero : (xs : List ℕ) → not (list_all (λ b. b == 0) xs) ≡ list_any is_nonzero xs
some_nonzero [] = refl
some_nonzero (x ∷ xs) =
    not-and (x == 0) (list_all (λ b. b == 0) xs) ∙ ap (λ r. not (x == 0) || r) (some_nonzero xs)

-- ---- the members of the defect

pub defect-zeros : (s : List ℕ) → (defect_of s).zeros ≡ slice_range s 2068 2076
unfolding defect_of
defect-zeros s = refl

pub defect-rest : (s : List ℕ) → (defect_of s).rest ≡ remainder (bits (take 2068 s))
unfolding defect_of
defect-rest s = refl

pub defect-columns : (s : List ℕ) → (defect_of s).columns ≡ all_syndromes (column_of s) 86
unfolding defect_of
defect-columns s = refl

pub defect-diagonals : (s : List ℕ) → (defect_of s).diagonals ≡ all_syndromes (diagonal_of s) 52
unfolding defect_of
defect-diagonals s = refl

-- ---- consistent

both_zero : (x y : Bool) → not (not x || not y) ≡ (x && y)
both_zero true true = refl
both_zero true false = refl
both_zero false y = refl

whole_word : (w : ℕ × ℕ) → Decides (not (is_broken w)) ((w.0 ≡ 0) × (w.1 ≡ 0))
whole_word w =
    Decides-at (not (is_broken w)) ((w.0 == 0) && (w.1 == 0)) (both_zero (w.0 == 0) (w.1 == 0))
    (Decides-and (w.0 == 0) (w.1 == 0) (Decides-eqb w.0 0) (Decides-eqb w.1 0))

-- both syndromes of each word
pub length-syndromes : (word : ℕ → List ℕ) (n : ℕ) → length (all_syndromes word n) ≡ n
unfolding all_syndromes
length-syndromes word n =
    length-map-range_with_len (λ i. (first_syndrome (word i), second_syndrome (word i))) 0 n

pub syndromes-at : (word : ℕ → List ℕ) (n i : ℕ) (d : ℕ × ℕ) → i < n
    → get_or (all_syndromes word n) i d ≡ (first_syndrome (word i), second_syndrome (word i))
unfolding all_syndromes
syndromes-at word n i d h =
    get_or-map-range_with_len (λ k. (first_syndrome (word k), second_syndrome (word k))) 0 n i i d h
    (omega arith)

pub whole_words : (word : ℕ → List ℕ) (n : ℕ)
    → Decides (list_all (λ w. not (is_broken w)) (all_syndromes word n))
    ((i : ℕ) → i < n → IsCodeWord (word i))
whole_words word n =
    let P : ℕ × ℕ → Type 0 = λ w. (w.0 ≡ 0) × (w.1 ≡ 0) in
    let ws = all_syndromes word n in
    let long = length-syndromes word n in
    Decides-like (list_all (λ w. not (is_broken w)) ws)
    (λ all i h.
    let k : i < length ws = omega arith in
    let both = rw (syndromes-at word n i (0, 0) h) at (all i (0, 0) k) in
    record { first = both.0; second = both.1 })
    (λ words i d h.
    let k : i < n = omega arith in
    rw (syndromes-at word n i d k) ((words i k).first, (words i k).second))
    (Decides-by_and (λ w. not (is_broken w)) P (list_all (λ w. not (is_broken w))) whole_word refl
    (λ x xs. refl) ws)

-- a test of each element, which the 0 past the end of a list passes too
all_at : (p : ℕ → Bool) (P : ℕ → Type 0) → ((x : ℕ) → Decides (p x) (P x)) → P 0 → (s : List ℕ)
    → Decides (list_all p s) ((i : ℕ) → P (get_or s i 0))
all_at p P each none s =
    Decides-like (list_all p s)
    (λ all i. elim (cases_lt i (length s)) [
      | inl inside ↦ all i 0 inside
      | inr past ↦ rw (get_or_past s i 0 past) none
    ])
    (λ at i d h. rw (get_or_default s i d 0 h) (at i))
    (Decides-by_and p P (list_all p) each refl (λ x xs. refl) s)

all_bytes : (s : List ℕ) → Decides (list_all (λ b. nat_lt b 256) s) (AreBytes s)
all_bytes = all_at (λ b. nat_lt b 256) (λ b. b < 256) (λ b. Decides-ltb b 256) (lit< tt)

pub mode1_decided : (k : SectorKind) → Decides (is_mode1 k) (k ≡ Mode1)
mode1_decided NoSync = (λ e. absurd cc, λ e. absurd cc)
mode1_decided Mode0 = (λ e. absurd cc, λ e. absurd cc)
mode1_decided Mode1 = (λ e. refl, λ e. refl)
mode1_decided Mode2 = (λ e. absurd cc, λ e. absurd cc)
mode1_decided Other = (λ e. absurd cc, λ e. absurd cc)

-- the tests of the Intermediate field and of the EDC's division
abbrev pub zeros_of : List ℕ → Bool
zeros_of s = list_all (λ b. b == 0) (slice_range s 2068 2076)

abbrev pub divides_of : List ℕ → Bool
divides_of s = remainder (bits (take 2068 s)) == 0

pub range-byte : (s : List ℕ) (a b i : ℕ) → a + i < b
    → get_or (slice_range s a b) i 0 ≡ get_or s (a + i) 0
range-byte s a b i h = get_or-take (b - a) (drop a s) i 0 (omega arith) ∙ get_or-drop a s i 0

pub length-range : (s : List ℕ) (a b : ℕ) → a ≤ b → b ≤ length s
    → length (slice_range s a b) ≡ b - a
length-range s a b h k = length-take-le (b - a) (drop a s) (omega (arith, length-drop a s))

all_zeros : (s : List ℕ)
    → Decides (zeros_of s) ((i : ℕ) → 2068 ≤ i → i < 2076 → get_or s i 0 ≡ 0)
all_zeros s =
    let zs = slice_range s 2068 2076 in
    Decides-like (zeros_of s)
    (λ all i low high.
    let e : 2068 + (i - 2068) ≡ i = omega arith in
    sym (range-byte s 2068 2076 (i - 2068) (omega arith) ∙ ap (λ n. get_or s n 0) e)
    ∙ all (i - 2068))
    (λ zero_at i. elim (cases_lt i 8) [
      | inl inside ↦ range-byte s 2068 2076 i (omega arith)
          ∙ zero_at (2068 + i) (omega arith) (omega arith)
      | inr past ↦ get_or_past zs i 0 (omega (arith, length-take 8 (drop 2068 s)))
    ])
    (all_at (λ b. b == 0) (λ b. b ≡ 0) (λ b. Decides-eqb b 0) refl zs)

-- the test of a sector by its parts
abbrev pub parts_of : List ℕ → Bool
parts_of s =
    ((zeros_of s && divides_of s)
    && list_all (λ w. not (is_broken w)) (all_syndromes (column_of s) 86))
    && list_all (λ w. not (is_broken w)) (all_syndromes (diagonal_of s) 52)

sound-parts : (s : List ℕ) → is_sound (defect_of s) ≡ parts_of s
unfolding defect_of
sound-parts s = refl

pub consistent-parts : (s : List ℕ)
    → consistent s
    ≡ ((((length s == 2352) && list_all (λ b. nat_lt b 256) s) && is_mode1 (kind_of s))
    && parts_of s)
unfolding consistent
consistent-parts s =
    ap (λ b. (((length s == 2352) && list_all (λ b. nat_lt b 256) s) && is_mode1 (kind_of s)) && b)
    (sound-parts s)

abbrev pub IsWhole : List ℕ → Type 0
IsWhole s =
    (((((i : ℕ) → 2068 ≤ i → i < 2076 → get_or s i 0 ≡ 0) × (remainder (bits (take 2068 s)) ≡ 0))
    × ((i : ℕ) → i < 86 → IsCodeWord (column_of s i)))
    × ((i : ℕ) → i < 52 → IsCodeWord (diagonal_of s i)))

parts_decided : (s : List ℕ) → Decides (parts_of s) (IsWhole s)
parts_decided s =
    let c = list_all (λ w. not (is_broken w)) (all_syndromes (column_of s) 86) in
    let d = list_all (λ w. not (is_broken w)) (all_syndromes (diagonal_of s) 52) in
    let rest = Decides-eqb (remainder (bits (take 2068 s))) 0 in
    Decides-and ((zeros_of s && divides_of s) && c) d
    (Decides-and (zeros_of s && divides_of s) c
    (Decides-and (zeros_of s) (divides_of s) (all_zeros s) rest) (whole_words (column_of s) 86))
    (whole_words (diagonal_of s) 52)

by_plane : (s : List ℕ) → IsConsistent s → IsWhole s
by_plane s h = (
  ((h.zeros, h.edc), λ i k. h.words.columns (i % 2) (i / 2) (omega arith) (omega arith)),
  λ i k. h.words.diagonals (i % 2) (i / 2) (omega arith) (omega arith),
)

-- the test of a sector decides the record of its parts
pub consistent-decided : (s : List ℕ) → Decides (consistent s) (IsConsistent s)
consistent-decided s =
    let size = length s == 2352 in
    let bytes = list_all (λ b. nat_lt b 256) s in
    let mode = is_mode1 (kind_of s) in
    Decides-like (consistent s)
    (λ tested. record {
      size = tested.0.0.0;
      bytes = tested.0.0.1;
      mode = tested.0.1;
      zeros = tested.1.0.0.0;
      edc = tested.1.0.0.1;
      words = AllCodeWords-by_number s tested.1.0.1 tested.1.1;
    })
    (λ h. (((h.size, h.bytes), h.mode), by_plane s h))
    (Decides-at (consistent s) (((size && bytes) && mode) && parts_of s) (consistent-parts s)
    (Decides-and ((size && bytes) && mode) (parts_of s)
    (Decides-and (size && bytes) mode
    (Decides-and size bytes (Decides-eqb (length s) 2352) (all_bytes s))
    (mode1_decided (kind_of s)))
    (parts_decided s)))

-- the test of a sector by the counts of broken words
abbrev pub columns_of : List ℕ → Bool
columns_of s = count_by is_broken (all_syndromes (column_of s) 86) == 0

abbrev pub diagonals_of : List ℕ → Bool
diagonals_of s = count_by is_broken (all_syndromes (diagonal_of s) 52) == 0

sound-counts : (s : List ℕ)
    → is_sound (defect_of s) ≡ (((zeros_of s && divides_of s) && columns_of s) && diagonals_of s)
sound-counts s =
    sound-parts s
    ∙ sym (ap₂ (λ t u. ((zeros_of s && divides_of s) && t) && u)
    (none_broken (all_syndromes (column_of s) 86)) (none_broken (all_syndromes (diagonal_of s) 52)))

-- the code tests the four parts in order: all of them hold, or one is the first that fails
pub sound-all : (s : List ℕ) → zeros_of s ≡ true → divides_of s ≡ true → columns_of s ≡ true
    → diagonals_of s ≡ is_sound (defect_of s)
sound-all s zeros edc columns =
    sym (sound-counts s ∙ ap₂ (λ f t. (f && t) && diagonals_of s)
    (ap₂ (λ z e. z && e) zeros edc) columns)

pub unsound-zeros : (s : List ℕ) → zeros_of s ≡ false → false ≡ is_sound (defect_of s)
unsound-zeros s fails =
    sym (sound-counts s ∙ ap (λ t. ((t && divides_of s) && columns_of s) && diagonals_of s) fails)

pub unsound-edc : (s : List ℕ) → divides_of s ≡ false → false ≡ is_sound (defect_of s)
unsound-edc s fails =
    sym (sound-counts s ∙ ap (λ t. (t && columns_of s) && diagonals_of s)
    (ap (λ e. zeros_of s && e) fails ∙ and-false (zeros_of s)))

pub unsound-columns : (s : List ℕ) → columns_of s ≡ false → false ≡ is_sound (defect_of s)
unsound-columns s fails =
    sym (sound-counts s ∙ ap (λ t. t && diagonals_of s)
    (ap (λ c. (zeros_of s && divides_of s) && c) fails ∙ and-false (zeros_of s && divides_of s)))

-- for a list that is a sector, the test depends only on the kind and the defect
pub consistent-sector : (s : List ℕ) → length s ≡ 2352 → AreBytes s
    → consistent s ≡ (is_mode1 (kind_of s) && is_sound (defect_of s))
unfolding consistent
consistent-sector s long bytes =
    let mode = is_mode1 (kind_of s) in
    let sound = is_sound (defect_of s) in
    ap (λ t. ((t && list_all (λ b. nat_lt b 256) s) && mode) && sound)
    ((Decides-eqb (length s) 2352).1 long)
    ∙ ap (λ t. ((true && t) && mode) && sound) ((all_bytes s).1 bytes)

-- the test of a defect by its members
pub sound_decided : (s : List ℕ) → Decides (is_sound (defect_of s)) (IsWhole s)
sound_decided s =
    Decides-at (is_sound (defect_of s)) (parts_of s) (sound-parts s) (parts_decided s)

-- a sector of a kind other than Mode 1 is not consistent
pub consistent-false : (s : List ℕ) (mode : Bool) → mode ≡ is_mode1 (kind_of s) → mode ≡ false
    → false ≡ consistent s
consistent-false s mode e fails =
    let sized = (length s == 2352) && list_all (λ b. nat_lt b 256) s in
    sym (consistent-parts s ∙ ap (λ t. (sized && t) && parts_of s) (sym e ∙ fails)
    ∙ ap (λ t. t && parts_of s) (and-false sized))
