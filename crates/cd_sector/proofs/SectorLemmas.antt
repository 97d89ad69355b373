-- There is only one consistent sector with a given content.
use Rattle.std.proofs.Common.{◌≡◌, ℕ, ◌+◌, ◌-◌, ◌*◌, ◌/◌, ◌%◌, ◌<◌, ◌≤◌, inl, inr, Bool, true, false, List, ◌++◌, length, get_or, take, drop, refl, sym, ap, ◌∙◌, arith, lit<}
use lib.Pointwise.{pointwise}
use Rattle.std.specs.Bool.{nat_eq, if◌then◌else◌}
use Rattle.std.specs.List.{slice_range, starts_with}
use Rattle.std.proofs.lemmas.Bool.{cases_lt}
use Rattle.std.proofs.lemmas.Bool.Decides.{Decides-eqb, nat_tests}
use Rattle.std.proofs.lemmas.List.{ext_get_or, get_or-take, length-take-le}
use Rattle.std.proofs.lemmas.Slice.Eq.{starts_is}
use Rattle.cd_code.specs.Edc.{bits, remainder}
use Rattle.cd_code.specs.Field.{AreBytes}
use Rattle.cd_code.specs.Syndrome.{IsCodeWord, SameSums}
use Rattle.cd_code.proofs.ByteLemmas.{AreBytes-take}
use Rattle.cd_code.proofs.general.Lists.{front-same, part-same}
use Rattle.cd_code.proofs.EdcLemmas.{edc_unique}
use Rattle.cd_code.proofs.SyndromeLemmas.{pair_unique}
use Rattle.cd_sector.specs.Carried.{sync_of}
use Rattle.cd_code.specs.CodeWords.{AllCodeWords, SameSyndromes, bytes_at, column_places, diagonal_places}
use Rattle.cd_sector.specs.Consistent.{IsConsistent, header_of, user_of}
use Rattle.cd_sector.specs.Kind.{kind_of, kind_of_mode, sync_field}
use Rattle.cd_sector.specs.declared.kinds.SectorKind.{SectorKind}
use Rattle.cd_sector.specs.declared.kinds.SectorKind.TheVariants.{NoSync, Mode1}
use Rattle.cd_sector.proofs.DefectLemmas.{range-byte}
use Rattle.cd_code.proofs.PlaceLemmas.{length-bytes_at, bytes_at-byte, AreBytes-bytes_at, length-column_places, column_place, length-diagonal_places, diagonal_place, diagonal_place-first, diagonal_place-second}

-- ---- parts of lists

-- two lists have the same elements below n
abbrev pub Agree : List ℕ → List ℕ → ℕ → Type 0
Agree s t n = (i : ℕ) → i < n → get_or s i 0 ≡ get_or t i 0

pub range-agree : (s t : List ℕ) (a b : ℕ) → slice_range s a b ≡ slice_range t a b → (i : ℕ) → a ≤ i
    → i < b → get_or s i 0 ≡ get_or t i 0
range-agree s t a b same i low high =
    let e : a + (i - a) ≡ i = omega arith in
    sym (range-byte s a b (i - a) (omega arith) ∙ ap (λ n. get_or s n 0) e)
    ∙ ap (λ v. get_or v (i - a) 0) same
    ∙ range-byte t a b (i - a) (omega arith) ∙ ap (λ n. get_or t n 0) e

-- ---- sync and mode

mode_is : (m : ℕ) → kind_of_mode m ≡ Mode1 → m ≡ 1
mode_is m e = grind (arith, nat_tests)

kind_parts : (b : Bool) (m : ℕ) → (if b then kind_of_mode m else NoSync) ≡ Mode1
    → (b ≡ true) × (m ≡ 1)
kind_parts true m e = (refl, mode_is m e)
kind_parts false m e = absurd cc

pub mode1-parts : (s : List ℕ) → kind_of s ≡ Mode1
    → (s ≡ sync_field ++ drop 12 s) × (get_or s 15 0 ≡ 1)
unfolding kind_of
mode1-parts s e =
    let parts = kind_parts (starts_with nat_eq s sync_field) (get_or s 15 0) e in
    ((starts_is Decides-eqb s sync_field (starts_with nat_eq s sync_field) refl).0 parts.0, parts.1)

pub mode1-from : (s rest : List ℕ) → s ≡ sync_field ++ rest → get_or s 15 0 ≡ 1 → kind_of s ≡ Mode1
unfolding kind_of
mode1-from s rest e m =
    let begins =
    (starts_is Decides-eqb s sync_field (starts_with nat_eq s sync_field) refl).1 rest e in
    ap (λ b. if b then kind_of_mode (get_or s 15 0) else NoSync) begins ∙ ap kind_of_mode m

-- ---- the same kind and header

kind_from : List ℕ → ℕ → SectorKind
kind_from front mode = if pointwise nat_eq sync_field front then kind_of_mode mode else NoSync

pub kind_of-same : (s t : List ℕ) → 16 ≤ length s → length s ≡ length t
    → ((i : ℕ) → i < 12 → get_or s i 0 ≡ get_or t i 0)
    → get_or s 15 0 ≡ get_or t 15 0 → kind_of s ≡ kind_of t
unfolding kind_of kind_from
kind_of-same s t inside same_size h mode =
    let front : take 12 s ≡ take 12 t = front-same s t 12 (omega arith) (omega arith) h in
    ap (λ v. kind_from v (get_or s 15 0)) front ∙ ap (kind_from (take 12 t)) mode

pub header_of-same : (s t : List ℕ) → 16 ≤ length s → length s ≡ length t
    → ((i : ℕ) → i < 16 → get_or s i 0 ≡ get_or t i 0)
    → header_of s ≡ header_of t
unfolding header_of
header_of-same s t inside same_size h =
    part-same s t 12 4 inside (omega arith) (λ i _ below. h i below)

-- ---- one word after the other

-- the last two bytes of a word are determined by its other bytes and its syndromes
pub word_agrees : (s t ps : List ℕ) (n : ℕ) → AreBytes s → AreBytes t → Agree s t n
    → ((k : ℕ) → k + 2 < length ps → get_or ps k 0 < n) → SameSums (bytes_at s ps) (bytes_at t ps)
    → (k : ℕ) → k < length ps → get_or s (get_or ps k 0) 0 ≡ get_or t (get_or ps k 0) 0
word_agrees s t ps n hs ht same inside sums k h =
    let long_s = length-bytes_at s ps in
    let long_t = length-bytes_at t ps in
    let equal : bytes_at s ps ≡ bytes_at t ps =
    pair_unique (bytes_at s ps) (bytes_at t ps)
    (record {
      bytes_left = AreBytes-bytes_at s ps hs;
      bytes_right = AreBytes-bytes_at t ps ht;
      same_length = long_s ∙ sym long_t;
      front = λ i below.
          let k_below : i + 2 < length ps = omega (arith, long_s) in
          bytes_at-byte s ps i (omega arith) ∙ same (get_or ps i 0) (inside i k_below)
          ∙ sym (bytes_at-byte t ps i (omega arith));
    })
    sums in
    sym (bytes_at-byte s ps k h) ∙ ap (λ v. get_or v k 0) equal ∙ bytes_at-byte t ps k h

-- words whose last two bytes are next in the sector: first one byte of each word, then the other
-- byte
words_agree : (s t : List ℕ) (n count len : ℕ) (places : ℕ → List ℕ) → AreBytes s → AreBytes t
    → Agree s t n → ((i : ℕ) → length (places i) ≡ len + 2)
    → ((i k : ℕ) → i < count → k < len → get_or (places i) k 0 < n)
    → ((i : ℕ) → i < count → get_or (places i) len 0 ≡ n + i)
    → ((i : ℕ) → i < count → get_or (places i) (len + 1) 0 ≡ n + count + i)
    → ((i : ℕ) → i < count → SameSums (bytes_at s (places i)) (bytes_at t (places i)))
    → Agree s t (n + 2 * count)
words_agree s t n count len places hs ht same long inside first second sums k h =
    let byte : (i m : ℕ) → i < count → m < len + 2 → get_or (places i) m 0 ≡ k
    → get_or s k 0 ≡ get_or t k 0 =
    (λ i m hi hm at.
    let size = long i in
    rw at at (word_agrees s t (places i) n hs ht same
    (λ j below. inside i j hi (omega arith)) (sums i hi) m (omega arith))) in
    elim (cases_lt k n) [
      | inl low ↦ same k low
      | inr from ↦ elim (cases_lt k (n + count)) [
        | inl one ↦
            let i = k - n in
            byte i len (omega arith) (omega arith) (first i (omega arith) ∙ omega arith)
        | inr two ↦
            let i = k - n - count in
            byte i (len + 1) (omega arith) (omega arith) (second i (omega arith) ∙ omega arith)
      ]
    ]

-- a sector is determined by its front, its Intermediate field, its remainder, and its syndromes
pub sector_same : (s t : List ℕ) → length s ≡ 2352 → length t ≡ 2352 → AreBytes s → AreBytes t
    → Agree s t 2064 → remainder (bits (take 2068 s)) ≡ remainder (bits (take 2068 t))
    → ((i : ℕ) → 2068 ≤ i → i < 2076 → get_or s i 0 ≡ get_or t i 0) → SameSyndromes s t → s ≡ t
sector_same s t ls lt hs ht front rest zeros sums =
    let long_s : length (take 2068 s) ≡ 2068 = length-take-le 2068 s (omega (arith, ls)) in
    let long_t : length (take 2068 t) ≡ 2068 = length-take-le 2068 t (omega (arith, lt)) in
    let with_edc : take 2068 s ≡ take 2068 t =
    edc_unique (take 2068 s) (take 2068 t)
    (record {
      bytes_left = AreBytes-take s 2068 hs;
      bytes_right = AreBytes-take t 2068 ht;
      same_length = long_s ∙ sym long_t;
      front = λ i below.
          let low : i < 2064 = omega (arith, long_s) in
          get_or-take 2068 s i 0 (omega arith) ∙ front i low
          ∙ sym (get_or-take 2068 t i 0 (omega arith));
    })
    rest in
    let to_zeros : Agree s t 2076 =
    (λ i below. elim (cases_lt i 2068) [
      | inl low ↦ sym (get_or-take 2068 s i 0 low) ∙ ap (λ v. get_or v i 0) with_edc
          ∙ get_or-take 2068 t i 0 low
      | inr high ↦ zeros i high below
    ]) in
    let to_p : Agree s t 2248 =
    words_agree s t 2076 86 24 (λ i. column_places (i % 2) (i / 2)) hs ht to_zeros
    (λ i. length-column_places (i % 2) (i / 2))
    (λ i k hi hk. let p = column_place (i % 2) (i / 2) k (omega arith) in omega arith)
    (λ i hi. column_place (i % 2) (i / 2) 24 (lit< tt) ∙ omega arith)
    (λ i hi. column_place (i % 2) (i / 2) 25 (lit< tt) ∙ omega arith)
    (λ i hi. sums.columns (i % 2) (i / 2) (omega arith) (omega arith)) in
    let to_q : Agree s t 2352 =
    words_agree s t 2248 52 43 (λ i. diagonal_places (i % 2) (i / 2)) hs ht to_p
    (λ i. length-diagonal_places (i % 2) (i / 2))
    (λ i k hi hk. let p = diagonal_place (i % 2) (i / 2) k hk in omega arith)
    (λ i hi. diagonal_place-first (i % 2) (i / 2) ∙ omega arith)
    (λ i hi. diagonal_place-second (i % 2) (i / 2) ∙ omega arith)
    (λ i hi. sums.diagonals (i % 2) (i / 2) (omega arith) (omega arith)) in
    ext_get_or 0 s t (ls ∙ sym lt) (λ i inside. to_q i (omega (arith, ls)))

SameSums-code_words : (v w : List ℕ) → IsCodeWord v → IsCodeWord w → SameSums v w
SameSums-code_words v w h k =
    record { first = h.first ∙ sym k.first; second = h.second ∙ sym k.second }

pub SameSyndromes-code_words : (s t : List ℕ) → AllCodeWords s → AllCodeWords t → SameSyndromes s t
SameSyndromes-code_words s t h k = record {
  columns = λ plane n p q. SameSums-code_words _ _ (h.columns plane n p q) (k.columns plane n p q);
  diagonals = λ plane n p q. SameSums-code_words _ _ (h.diagonals plane n p q)
      (k.diagonals plane n p q);
}

-- two sectors with equal parts of the front agree on the front
pub front-parts : (s t : List ℕ) → sync_of s ≡ sync_of t → header_of s ≡ header_of t
    → user_of s ≡ user_of t → Agree s t 2064
unfolding sync_of header_of user_of
front-parts s t sync header user i h = elim (cases_lt i 12) [
  | inl low ↦ range-agree s t 0 12 sync i (omega arith) low
  | inr past ↦ elim (cases_lt i 16) [
    | inl low ↦ range-agree s t 12 16 header i past low
    | inr over ↦ range-agree s t 16 2064 user i over h
  ]
]

pub sync-field : (s rest : List ℕ) → s ≡ sync_field ++ rest → sync_of s ≡ sync_field
unfolding sync_of
sync-field s rest e = ap (λ v. slice_range v 0 12) e

-- two consistent sectors with equal content are equal
pub sector_unique : (s t : List ℕ) → IsConsistent s → IsConsistent t → header_of s ≡ header_of t
    → user_of s ≡ user_of t → s ≡ t
sector_unique s t hs ht header user =
    let sync = sync-field s (drop 12 s) (mode1-parts s hs.mode).0
    ∙ sym (sync-field t (drop 12 t) (mode1-parts t ht.mode).0) in
    sector_same s t hs.size ht.size hs.bytes ht.bytes (front-parts s t sync header user)
    (hs.edc ∙ sym ht.edc)
    (λ i low high. hs.zeros i low high ∙ sym (ht.zeros i low high))
    (SameSyndromes-code_words s t hs.words ht.words)
