-- A sector after bytes were written into its user data, and then the EDC.
use Rattle.std.proofs.Common.{◌≡◌, ◌⊎◌, ℕ, ◌+◌, ◌-◌, ◌^◌, ◌<◌, ◌≤◌, inl, inr, List, ◌++◌, length, get_or, take, drop, bit_xor, refl, sym, ap, ap₂, ◌∙◌, arith}
use Rattle.std.specs.Prelude.{slice_range}
use Rattle.std.specs.Int.{from_le_bytes, to_le_bytes, w32}
use Rattle.std.specs.Int.Bits.{xor_zero_r}
use Rattle.std.proofs.Math.Seq.{take-add}
use Rattle.std.proofs.lemmas.List.{drop-drop, drop-take, get_or-append_right, get_or_append_left, get_or-drop, get_or-take, length-append, length-drop, length-take-le, take-take}
use Rattle.std.proofs.lemmas.Nat.{from_le_bytes-to_le_bytes_4}
use Rattle.cd_code.specs.Edc.{IsEdc, bits, remainder}
use Rattle.cd_code.specs.Field.{AreBytes}
use Rattle.cd_code.proofs.general.Lists.{front-same, get_or-second, part-list, part-same}
use Rattle.cd_code.proofs.EdcLemmas.{after_bits-zero}
use Rattle.cd_code.specs.CodeWords.{SameSyndromes}
use Rattle.cd_sector.specs.Consistent.{IsConsistent, header_of, user_of}
use Rattle.cd_sector.specs.EdcField.{StoresEdc}
use Rattle.cd_sector.specs.Kind.{kind_of}
use Rattle.cd_delta.specs.Writing.{IsChanged, IsWritten, WithEdc, with_range}
use Rattle.cd_sector.proofs.EdcPlaceLemmas.{StoresEdc-remainder}
use Rattle.cd_sector.proofs.SectorLemmas.{header_of-same, kind_of-same}
use Rattle.cd_sector.proofs.SumLemmas.{AllCodeWords-same}
use Rattle.cd_delta.proofs.WritingLemmas.{SameSyndromes-trans}

-- ---- the user data

pub length-written : (user : List ℕ) (offset : ℕ) (bytes : List ℕ)
    → offset + length bytes ≤ length user
    → length (with_range user offset bytes) ≡ length user
unfolding with_range
length-written user offset bytes h =
    let back = drop (offset + length bytes) user in
    let one = length-append (take offset user) (bytes ++ back) in
    let two = length-append bytes back in
    let three = length-take-le offset user (omega arith) in
    let four = length-drop (offset + length bytes) user in
    omega arith

pub written-range : (user : List ℕ) (offset : ℕ) (bytes : List ℕ) (k : ℕ)
    → offset + length bytes ≤ length user
    → k < length bytes → get_or (with_range user offset bytes) (offset + k) 0 ≡ get_or bytes k 0
unfolding with_range
written-range user offset bytes k h below =
    let back = drop (offset + length bytes) user in
    get_or-second (take offset user) (bytes ++ back) offset k
    (length-take-le offset user (omega arith))
    ∙ get_or_append_left bytes back 0 k below

pub written-other : (user : List ℕ) (offset : ℕ) (bytes : List ℕ) (k : ℕ)
    → offset + length bytes ≤ length user
    → (k < offset) ⊎ (offset + length bytes ≤ k)
    → get_or (with_range user offset bytes) k 0 ≡ get_or user k 0
unfolding with_range
written-other user offset bytes k h out =
    let back = drop (offset + length bytes) user in
    let front = length-take-le offset user (omega arith) in
    elim out [
      | inl before ↦
          get_or_append_left (take offset user) (bytes ++ back) 0 k (omega arith)
          ∙ get_or-take offset user k 0 before
      | inr after ↦
          let index : offset + length bytes + (k - offset - length bytes) ≡ k = omega arith in
          get_or-append_right (take offset user) (bytes ++ back) offset k 0 front (omega arith)
          ∙ get_or-append_right bytes back (length bytes) (k - offset) 0 refl (omega arith)
          ∙ get_or-drop (offset + length bytes) user (k - offset - length bytes) 0
          ∙ ap (λ n. get_or user n 0) index
    ]

-- the m bytes from a on contain `bytes` at an offset, and nothing else in them has changed
range-written : (old new : List ℕ) (a m offset : ℕ) (bytes : List ℕ) → offset + length bytes ≤ m
    → a + m ≤ length old → length new ≡ length old
    → ((i : ℕ) → i < length bytes → get_or new (a + offset + i) 0 ≡ get_or bytes i 0)
    → ((i : ℕ) → a ≤ i → i < a + m → (i < a + offset) ⊎ (a + offset + length bytes ≤ i)
    → get_or new i 0 ≡ get_or old i 0)
    → take m (drop a new) ≡ with_range (take m (drop a old)) offset bytes
unfolding with_range
range-written old new a m offset bytes fits inside same_size range others =
    let n = length bytes in
    let rest = m - (offset + n) in
    let whole : offset + (n + rest) ≡ m = omega arith in
    let parts : offset + n + rest ≡ m = omega arith in
    let before : take offset (drop a new) ≡ take offset (take m (drop a old)) =
    part-same new old a offset (omega arith) (omega arith)
    (λ i from below. others i from (omega arith) (inl below))
    ∙ sym (take-take offset m (drop a old) (omega arith)) in
    let here : take n (drop offset (drop a new)) ≡ bytes =
    ap (take n) (drop-drop offset a new) ∙ part-list new bytes (a + offset) (omega arith) range in
    let after : take rest (drop n (drop offset (drop a new))) ≡ drop (offset + n) (take m (drop a old)) =
    ap (take rest) (drop-drop n offset (drop a new) ∙ drop-drop (offset + n) a new)
    ∙ part-same new old (a + (offset + n)) rest (omega arith) (omega arith)
    (λ i from below. others i (omega arith) (omega arith) (inr (omega arith)))
    ∙ sym
    (ap (λ k. drop (offset + n) (take k (drop a old))) (sym parts)
    ∙ drop-take (offset + n) rest (drop a old) ∙ ap (take rest) (drop-drop (offset + n) a old)) in
    ap (λ k. take k (drop a new)) (sym whole) ∙ take-add offset (n + rest) (drop a new)
    ∙ ap₂ (λ v w. v ++ w) before
    (take-add n rest (drop offset (drop a new)) ∙ ap₂ (λ v w. v ++ w) here after)

-- ---- the EDC

-- the word of the first bytes is written after them
pub WithEdc-written : (old new four : List ℕ) (w error : ℕ) → length old ≡ 2352 → AreBytes old
    → error < 2 ^ 32
    → IsEdc (take 2064 old) w → four ≡ to_le_bytes w32 (bit_xor w error)
    → IsWritten old new 2064 (length four) four
    → WithEdc old new error
WithEdc-written old new four w error size each fits word at h =
    let same_size = h.size in
    let front : take 2064 new ≡ take 2064 old =
    front-same new old 2064 (omega arith) (omega arith)
    (λ i below. h.front i (omega arith) (inl below)) in
    let long : length four ≡ 4 = ap length at in
    let four_at : take (length four) (drop 2064 new) ≡ four =
    part-list new four 2064 (omega arith) (λ i below. h.range i (omega arith)) in
    record {
      size = h.size ∙ size;
      each = h.each each;
      same_size = h.size;
      edc = record {
        word = w;
        fits = fits;
        is_word = rw front word;
        at_end = ap (λ n. take n (drop 2064 new)) (sym long) ∙ four_at ∙ at;
      };
      front = λ i below out. elim out [
        | inl before ↦ h.front i below (inl before)
        | inr after ↦ h.front i below (inr (omega arith))
      ];
      syndromes = h.syndromes;
    }

-- ---- both

-- bytes before the EDC, and then the EDC
pub IsChanged-carried : (old t new : List ℕ) (place : ℕ) (bytes : List ℕ) (error : ℕ)
    → place + length bytes ≤ 2064
    → IsWritten old t place (length bytes) bytes → WithEdc t new error
    → IsChanged old new place bytes error
IsChanged-carried old t new place bytes error fits user edc = record {
  fits = fits;
  size = edc.size;
  same_size = edc.same_size ∙ user.size;
  each = edc.each;
  range = λ i below. edc.front (place + i) (omega arith) (inl (omega arith)) ∙ user.range i below;
  front = λ i below out. edc.front i (omega arith) (inl below) ∙ user.front i (omega arith) out;
  zeros = λ i from below. edc.front i below (inr from) ∙ user.front i below (inr (omega arith));
  edc = edc.edc;
  syndromes = SameSyndromes-trans edc.syndromes user.syndromes;
}

-- the front of a different sector, with its EDC
pub IsChanged-front : (old front new : List ℕ) (place : ℕ) (bytes : List ℕ) (error : ℕ)
    → place + length bytes ≤ 2064
    → length old ≡ 2352 → length front ≡ 2352 → length new ≡ length old → AreBytes new
    → ((i : ℕ) → i < length bytes → get_or front (place + i) 0 ≡ get_or bytes i 0)
    → ((i : ℕ) → (i < place) ⊎ (place + length bytes ≤ i) → (i < 2064) ⊎ (2068 ≤ i)
    → get_or front i 0 ≡ get_or old i 0)
    → StoresEdc front error → ((i : ℕ) → i < 2076 → get_or new i 0 ≡ get_or front i 0)
    → SameSyndromes new old
    → IsChanged old new place bytes error
IsChanged-front old front new place bytes error fits old_size front_size same_size each range
    elsewhere edc same syndromes =
    let size : length new ≡ 2352 = same_size ∙ old_size in
    let whole : take 2064 new ≡ take 2064 front =
    front-same new front 2064 (omega arith) (omega arith) (λ i below. same i (omega arith)) in
    let word : slice_range new 2064 2068 ≡ slice_range front 2064 2068 =
    part-same new front 2064 4 (omega arith) (omega arith) (λ i _ below. same i (omega arith)) in
    record {
      fits = fits;
      size = size;
      same_size = same_size;
      each = each;
      range = λ i below. same (place + i) (omega arith) ∙ range i below;
      front = λ i below out. same i (omega arith) ∙ elsewhere i out (inl below);
      zeros = λ i from below. same i below ∙ elsewhere i (inr (omega arith)) (inr from);
      edc = record {
        word = edc.word;
        fits = edc.fits;
        is_word = rw whole edc.is_word;
        at_end =
            word ∙ edc.at_end;
      };
      syndromes = syndromes;
    }

long-of : {old new : List ℕ} {place : ℕ} {bytes : List ℕ} {error : ℕ}
    → IsChanged old new place bytes error → length old ≡ 2352
long-of h = sym h.same_size ∙ h.size

-- the same, for equal bytes and an equal error
pub IsChanged-same : {old new : List ℕ} {place : ℕ} {bytes others : List ℕ} {error other : ℕ}
    → IsChanged old new place bytes error
    → bytes ≡ others → error ≡ other → IsChanged old new place others other
IsChanged-same h same equal = rw (same, equal) at h

-- without an error
pub edc-of : {old new : List ℕ} {place : ℕ} {bytes : List ℕ} → IsChanged old new place bytes 0
    → IsEdc (take 2064 new) (from_le_bytes w32 (slice_range new 2064 2068))
edc-of {old} {new} h =
    let w = h.edc.word in
    let e : from_le_bytes w32 (slice_range new 2064 2068) ≡ w =
    ap (from_le_bytes w32) (h.edc.at_end ∙ ap (to_le_bytes w32) (xor_zero_r w))
    ∙ from_le_bytes-to_le_bytes_4 w h.edc.is_word.fits in
    rw e h.edc.is_word

pub divides-of : {old new : List ℕ} {place : ℕ} {bytes : List ℕ} → IsChanged old new place bytes 0
    → remainder (bits (take 2068 new)) ≡ 0
divides-of h = StoresEdc-remainder h.edc ∙ after_bits-zero 32

-- the sync field and the mode byte stay
pub kind-of : {old new : List ℕ} {place : ℕ} {bytes : List ℕ} {error : ℕ}
    → IsChanged old new place bytes error
    → 12 ≤ place → (16 ≤ place) ⊎ (place + length bytes ≤ 15) → kind_of new ≡ kind_of old
kind-of {old} {new} h from out =
    let size = h.size in
    kind_of-same new old (omega arith) h.same_size
    (λ i below. h.front i (omega arith) (inl (omega arith)))
    (h.front 15 (omega arith)
    (elim out [ inl after ↦ inl (omega arith) | inr before ↦ inr before ]))

pub IsConsistent-of : {old new : List ℕ} {place : ℕ} {bytes : List ℕ} {error : ℕ}
    → IsChanged old new place bytes error
    → remainder (bits (take 2068 new)) ≡ 0 → kind_of new ≡ kind_of old → IsConsistent old
    → IsConsistent new
IsConsistent-of h divides kind sound = record {
  size = h.size;
  bytes = h.each;
  mode = kind ∙ sound.mode;
  zeros = λ i from below. h.zeros i from below ∙ sound.zeros i from below;
  edc = divides;
  words = AllCodeWords-same h.syndromes sound.words;
}

-- ---- bytes of the user data

pub user-stays : (offset : ℕ) {old new bytes : List ℕ} {error : ℕ}
    → IsChanged old new (16 + offset) bytes error
    → (i : ℕ) → (i < 16) ⊎ ((2068 ≤ i) × (i < 2076)) → get_or new i 0 ≡ get_or old i 0
user-stays offset h i out = elim out [
  | inl before ↦ h.front i (omega arith) (inl (omega arith))
  | inr after ↦ h.zeros i after.0 after.1
]

pub user-of : (offset : ℕ) {old new bytes : List ℕ} {error : ℕ}
    → IsChanged old new (16 + offset) bytes error
    → user_of new ≡ with_range (user_of old) offset bytes
unfolding user_of
user-of offset {old} {new} {bytes} h =
    let fits = h.fits in
    range-written old new 16 2048 offset bytes (omega arith) (omega (arith, long-of h)) h.same_size
    h.range (λ i _ below out. h.front i below out)

pub user-header : (offset : ℕ) {old new bytes : List ℕ} {error : ℕ}
    → IsChanged old new (16 + offset) bytes error → header_of new ≡ header_of old
user-header offset {old} {new} h =
    let size = h.size in
    header_of-same new old (omega arith) h.same_size (λ i below. user-stays offset h i (inl below))

-- ---- the address in the header

-- the three bytes of an address, and every other byte as it was
pub header-stays : {old new bytes : List ℕ} {error : ℕ} → IsChanged old new 12 bytes error
    → length bytes ≡ 3
    → (i : ℕ) → (i < 12) ⊎ (((15 ≤ i) × (i < 2064)) ⊎ ((2068 ≤ i) × (i < 2076)))
    → get_or new i 0 ≡ get_or old i 0
header-stays h three i out = elim out [
  | inl before ↦ h.front i (omega arith) (inl before)
  | inr after ↦ elim after [
    | inl user ↦ h.front i user.1 (inr (omega (arith, user.0)))
    | inr zeros ↦ h.zeros i zeros.0 zeros.1
  ]
]

pub header-user : {old new bytes : List ℕ} {error : ℕ} → IsChanged old new 12 bytes error
    → length bytes ≡ 3 → user_of new ≡ user_of old
unfolding user_of
header-user {old} {new} h three =
    let size = h.size in
    part-same new old 16 2048 (omega arith) (omega (arith, h.same_size))
    (λ i from below. h.front i (omega arith) (inr (omega arith)))

-- the three bytes of the address, and the old mode byte
pub header-of : {old new bytes : List ℕ} {error : ℕ} → IsChanged old new 12 bytes error
    → length bytes ≡ 3 → header_of new ≡ bytes ++ drop 3 (header_of old)
unfolding header_of with_range
header-of {old} {new} {bytes} h three =
    let number : 0 + length bytes ≡ 3 = omega arith in
    range-written old new 12 4 0 bytes (omega arith) (omega (arith, long-of h)) h.same_size h.range
    (λ i _ below out. h.front i (omega arith) out)
    ∙ ap (λ n. bytes ++ drop n (header_of old)) number
