-- A sector is determined by its content and its defect, so there is at most one carried sector.
use Rattle.std.proofs.Common.{◌≡◌, ℕ, ◌+◌, ◌/◌, ◌%◌, ◌<◌, ◌≤◌, Bool, Decides, List, ◌++◌, length, get_or, take, drop, bit_xor, refl, sym, ap, ap₂, ◌∙◌, arith, lit<}
use Rattle.std.specs.List.{slice_range}
use Rattle.std.specs.Int.Bits.{xor_self}
use Rattle.std.proofs.lemmas.Bool.Decides.{Decides-at, Decides-like}
use Rattle.std.proofs.lemmas.List.{ext_get_or, get_or-take, take-append-drop}
use Rattle.cd_code.specs.Edc.{bits, remainder}
use Rattle.cd_code.specs.Field.{AreBytes, IsSum}
use Rattle.cd_code.specs.Syndrome.{SameSums}
use Rattle.cd_code.proofs.general.Lists.{part-same}
use Rattle.cd_code.proofs.general.Xor.{same_from_xor}
use Rattle.cd_sector.specs.Carried.{IsCarried, sync_of}
use Rattle.cd_code.specs.CodeWords.{SameSyndromes, bytes_at, column_of, column_places, diagonal_of, diagonal_places}
use Rattle.cd_sector.specs.Consistent.{IsConsistent, header_of, user_of}
use Rattle.cd_sector.specs.Defect.{all_syndromes, defect_of, is_sound}
use Rattle.cd_sector.specs.Kind.{sync_field}
use Rattle.cd_sector.proofs.DefectLemmas.{IsWhole, sound_decided, defect-columns, defect-diagonals, defect-rest, defect-zeros, length-syndromes, range-byte, syndromes-at}
use Rattle.cd_sector.proofs.ParityLemmas.{AllCodeWords-by_number}
use Rattle.cd_code.proofs.PlaceLemmas.{plane-by_number}
use Rattle.cd_sector.proofs.SectorLemmas.{Agree, SameSyndromes-code_words, front-parts, mode1-from, mode1-parts, range-agree, sector_same, sync-field}
use Rattle.cd_sector.proofs.SumLemmas.{AllCodeWords-same, AllCodeWords-sum, SameSyndromes-none, remainder_of_sum}

-- ---- the members of two defects

-- words with equal lists of syndromes have the same syndromes, word by word
syndromes-equal : (v w : ℕ → List ℕ) (n : ℕ) → all_syndromes v n ≡ all_syndromes w n → (i : ℕ)
    → i < n → SameSums (v i) (w i)
syndromes-equal v w n same i below =
    let none : ℕ × ℕ = (0, 0) in
    let both = sym (syndromes-at v n i none below) ∙ ap (λ l. get_or l i none) same
    ∙ syndromes-at w n i none below in
    record { first = ap (λ p. p.0) both; second = ap (λ p. p.1) both }

-- words with the same syndromes, word by word, have equal lists of syndromes
syndromes-same : (v w : ℕ → List ℕ) (n : ℕ) → ((i : ℕ) → i < n → SameSums (v i) (w i))
    → all_syndromes v n ≡ all_syndromes w n
syndromes-same v w n same =
    let none : ℕ × ℕ = (0, 0) in
    let pair : ℕ → ℕ → ℕ × ℕ = λ a b. (a, b) in
    let long = length-syndromes v n in
    ext_get_or none (all_syndromes v n) (all_syndromes w n) (long ∙ sym (length-syndromes w n))
    (λ i inside.
    let below : i < n = omega arith in
    syndromes-at v n i none below ∙ ap₂ pair (same i below).first (same i below).second
    ∙ sym (syndromes-at w n i none below))

-- two defects are equal if their members are
pub defect-same : (s t : List ℕ) → slice_range s 2068 2076 ≡ slice_range t 2068 2076
    → remainder (bits (take 2068 s)) ≡ remainder (bits (take 2068 t)) → SameSyndromes s t
    → defect_of s ≡ defect_of t
unfolding defect_of
defect-same s t zeros rest same =
    let columns : all_syndromes (column_of s) 86 ≡ all_syndromes (column_of t) 86 =
    syndromes-same (column_of s) (column_of t) 86
    (λ i h. same.columns (i % 2) (i / 2) (omega arith) (omega arith)) in
    let diagonals : all_syndromes (diagonal_of s) 52 ≡ all_syndromes (diagonal_of t) 52 =
    syndromes-same (diagonal_of s) (diagonal_of t) 52
    (λ i h. same.diagonals (i % 2) (i / 2) (omega arith) (omega arith)) in
    rw (zeros, rest, columns, diagonals)

pub same-zeros : (s t : List ℕ) → defect_of s ≡ defect_of t → (i : ℕ) → 2068 ≤ i → i < 2076
    → get_or s i 0 ≡ get_or t i 0
same-zeros s t same =
    range-agree s t 2068 2076 (sym (defect-zeros s) ∙ ap (λ d. d.zeros) same ∙ defect-zeros t)

pub same-rest : (s t : List ℕ) → defect_of s ≡ defect_of t
    → remainder (bits (take 2068 s)) ≡ remainder (bits (take 2068 t))
same-rest s t same = sym (defect-rest s) ∙ ap (λ d. d.rest) same ∙ defect-rest t

pub same-syndromes : (s t : List ℕ) → defect_of s ≡ defect_of t → SameSyndromes s t
same-syndromes s t same =
    let columns = syndromes-equal (column_of s) (column_of t) 86
    (sym (defect-columns s) ∙ ap (λ d. d.columns) same ∙ defect-columns t) in
    let diagonals = syndromes-equal (diagonal_of s) (diagonal_of t) 52
    (sym (defect-diagonals s) ∙ ap (λ d. d.diagonals) same ∙ defect-diagonals t) in
    record {
      columns =
          plane-by_number (λ p n. SameSums (bytes_at s (column_places p n))
          (bytes_at t (column_places p n))) 43 columns;
      diagonals =
          plane-by_number (λ p n. SameSums (bytes_at s (diagonal_places p n))
          (bytes_at t (diagonal_places p n))) 26 diagonals;
    }

-- ---- by content and defect

-- a sector is determined by its front and its defect
pub sector_by_front : (s t : List ℕ) → length s ≡ 2352 → AreBytes s → length t ≡ 2352 → AreBytes t
    → Agree s t 2064
    → defect_of s ≡ defect_of t → s ≡ t
sector_by_front s t ls hs lt ht front same =
    sector_same s t ls lt hs ht front (same-rest s t same) (same-zeros s t same)
    (same-syndromes s t same)

pub sector_by_defect : (s t : List ℕ) → length s ≡ 2352 → AreBytes s → length t ≡ 2352 → AreBytes t
    → sync_of s ≡ sync_of t
    → header_of s ≡ header_of t → user_of s ≡ user_of t → defect_of s ≡ defect_of t → s ≡ t
sector_by_defect s t ls hs lt ht sync header user same =
    sector_by_front s t ls hs lt ht (front-parts s t sync header user) same

pub carried_unique : (old header user s t : List ℕ) → IsCarried old header user s
    → IsCarried old header user t → s ≡ t
carried_unique old header user s t h k =
    sector_by_defect s t h.size h.bytes k.size k.bytes (h.same_sync ∙ sym k.same_sync)
    (h.has_header ∙ sym k.has_header)
    (h.has_user ∙ sym k.has_user) (h.same_defect ∙ sym k.same_defect)

-- ---- of consistent sectors

pub carried_consistent : (old header user s : List ℕ) → IsConsistent old → get_or header 3 0 ≡ 1
    → IsCarried old header user s → IsConsistent s
unfolding sync_of header_of
carried_consistent old header user s sound mode h =
    let parts = mode1-parts old sound.mode in
    let front : take 12 s ≡ sync_field = h.same_sync ∙ sync-field old (drop 12 old) parts.0 in
    let byte : get_or s 15 0 ≡ 1 =
    sym (range-byte s 12 16 3 (lit< tt)) ∙ ap (λ v. get_or v 3 0) h.has_header ∙ mode in
    record {
      size = h.size;
      bytes = h.bytes;
      mode = mode1-from s (drop 12 s)
          (sym (take-append-drop 12 s) ∙ ap (λ v. v ++ drop 12 s) front) byte;
      zeros = λ i low high. same-zeros s old h.same_defect i low high ∙ sound.zeros i low high;
      edc = same-rest s old h.same_defect ∙ sound.edc;
      words = AllCodeWords-same (same-syndromes s old h.same_defect) sound.words;
    }

pub consistent_carried : (old s : List ℕ) → IsConsistent old → IsConsistent s
    → IsCarried old (header_of s) (user_of s) s
consistent_carried old s h k = record {
  size = k.size;
  bytes = k.bytes;
  same_sync = sync-field s (drop 12 s) (mode1-parts s k.mode).0
      ∙ sym (sync-field old (drop 12 old) (mode1-parts old h.mode).0);
  has_header = refl;
  has_user = refl;
  same_defect =
      defect-same s old
      (part-same s old 2068 8 (omega (arith, k.size)) (omega (arith, h.size))
      (λ i low high. k.zeros i low high ∙ sym (h.zeros i low high)))
      (k.edc ∙ sym h.edc) (SameSyndromes-code_words s old k.words h.words);
}

-- ---- the test of two defects

-- the sum of two sectors has no defect exactly if the defects of the two sectors are equal
pub same_defect-decided : (a b sum : List ℕ) (r : Bool) → length a ≡ 2352 → length b ≡ 2352
    → length sum ≡ 2352 → IsSum sum a b
    → r ≡ is_sound (defect_of sum) → Decides r (defect_of a ≡ defect_of b)
same_defect-decided a b sum r la lb ls h e =
    let known : Decides r (IsWhole sum) =
    Decides-at r (is_sound (defect_of sum)) e (sound_decided sum) in
    Decides-like r
    (λ whole.
    defect-same a b
    (part-same a b 2068 8 (omega (arith, la)) (omega (arith, lb))
    (λ i low high. same_from_xor (get_or a i 0) (get_or b i 0)
    (sym (h.byte i) ∙ whole.0.0.0 i low high)))
    (same_from_xor (remainder (bits (take 2068 a))) (remainder (bits (take 2068 b)))
    (sym (remainder_of_sum sum a b h ls la lb) ∙ whole.0.0.1))
    (SameSyndromes-none sum a b h (AllCodeWords-by_number sum whole.0.1 whole.1)))
    (λ equal.
    let words = AllCodeWords-sum sum a b h (same-syndromes a b equal) in
    let rest = remainder (bits (take 2068 b)) in (
      (
        (
          λ i low high.
              h.byte i ∙ ap (λ n. bit_xor n (get_or b i 0)) (same-zeros a b equal i low high)
              ∙ xor_self (get_or b i 0),
          remainder_of_sum sum a b h ls la lb ∙ ap (λ n. bit_xor n rest) (same-rest a b equal)
              ∙ xor_self rest,
        ),
        λ i k. words.columns (i % 2) (i / 2) (omega arith) (omega arith),
      ),
      λ i k. words.diagonals (i % 2) (i / 2) (omega arith) (omega arith),
    ))
    known

-- two sectors with equal bytes before the EDC, and with equal defects, are equal
pub same_defect-unique : (a b : List ℕ) → length a ≡ 2352 → AreBytes a → length b ≡ 2352 → AreBytes b
    → take 2064 a ≡ take 2064 b → defect_of a ≡ defect_of b → a ≡ b
same_defect-unique a b la ha lb hb front same =
    sector_by_front a b la ha lb hb
    (λ i h. sym (get_or-take 2064 a i 0 h) ∙ ap (λ v. get_or v i 0) front
    ∙ get_or-take 2064 b i 0 h) same
