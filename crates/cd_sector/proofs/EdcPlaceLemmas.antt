-- The EDC field of a sector: writing an EDC to it, and comparing an EDC with it.
use Rattle.std.proofs.Common.{◌≡◌, ℕ, ◌+◌, ◌-◌, ◌^◌, ◌<◌, ◌≤◌, ◌⊎◌, inl, Bool, Decides, List, [], ◌∷◌, ◌++◌, length, get_or, take, drop, bit_xor, sym, ap, ◌∙◌, arith}
use Rattle.std.specs.Bool.{◌==◌, one_answer}
use Rattle.std.specs.Prelude.{slice_range}
use Rattle.std.specs.Int.{from_le_bytes, to_le_bytes, w32}
use Rattle.std.proofs.lemmas.Bool.Decides.{Decides-eqb, Decides-like}
use Rattle.std.proofs.lemmas.Nat.{le_bytes_4, xor_lt}
use Rattle.std.proofs.Math.Seq.{take-add}
use Rattle.cd_code.specs.Edc.{IsEdc, bits, remainder}
use Rattle.cd_code.specs.Field.{AreBytes}
use Rattle.cd_code.proofs.ByteLemmas.{AreBytes-drop, AreBytes-take}
use Rattle.cd_code.proofs.general.Lists.{front-same, length-part}
use Rattle.cd_code.proofs.EdcLemmas.{Ends-from, Ends-more, IsEdc-unique, after, after-append, after-word, after_bits, remainder-after}
use Rattle.cd_sector.specs.EdcField.{StoresEdc}

-- the EDC word of the first bytes, written after them
pub StoresEdc-put : (old new : List ℕ) (w error : ℕ) → length old ≡ 2352 → length new ≡ 2352
    → error < 2 ^ 32
    → IsEdc (take 2064 old) w → slice_range new 2064 2068 ≡ to_le_bytes w32 (bit_xor w error)
    → ((k : ℕ) → (k < 2064) ⊎ (2068 ≤ k) → get_or new k 0 ≡ get_or old k 0)
    → StoresEdc new error
StoresEdc-put old new w error old_size new_size fits word put stays =
    let front : take 2064 new ≡ take 2064 old =
    front-same new old 2064 (omega arith) (omega arith) (λ i below. stays i (inl below)) in
    record { word = w; fits = fits; is_word = rw front word; at_end = put }

-- the remainder of the division is the remainder of the error
pub StoresEdc-remainder : {s : List ℕ} {error : ℕ} → StoresEdc s error
    → remainder (bits (take 2068 s)) ≡ after_bits 32 0 error
StoresEdc-remainder {s} {error} h =
    let front = take 2064 s in
    let four = to_le_bytes w32 (bit_xor h.word error) in
    let rest = after 0 front in
    ap (λ v. remainder (bits v)) (take-add 2064 4 s ∙ ap (λ v. front ++ v) h.at_end)
    ∙ remainder-after (front ++ four) ∙ after-append 0 front four
    ∙ after-word rest (bit_xor h.word error) (xor_lt 32 h.word error h.is_word.fits h.fits)
    ∙ Ends-more (Ends-from front h.word h.is_word) error

stored_lt : (v : List ℕ) → length v ≡ 4 → AreBytes v → from_le_bytes w32 v < 2 ^ 32
stored_lt (a ∷ b ∷ c ∷ d ∷ []) long h =
    let p : a < 256 = h 0 in
    let q : b < 256 = h 1 in
    let r : c < 256 = h 2 in
    let t : d < 256 = h 3 in
    omega arith
stored_lt _ long h = absurd (omega arith)

-- the test of the word in the EDC field
pub edc_decided : (s : List ℕ) (w stored : ℕ) (r : Bool) → length s ≡ 2352 → AreBytes s
    → IsEdc (take 2064 s) w
    → stored ≡ from_le_bytes w32 (slice_range s 2064 2068) → Decides r (w ≡ stored)
    → r ≡ (remainder (bits (take 2068 s)) == 0)
edc_decided s w stored r size bytes edc read known =
    let front = take 2064 s in
    let four = slice_range s 2064 2068 in
    let long = length-part s 2064 4 (omega (arith, size)) in
    let each = AreBytes-take (drop 2064 s) 4 (AreBytes-drop s 2064 bytes) in
    let split : front ++ to_le_bytes w32 stored ≡ take 2068 s =
    ap (λ v. front ++ v) (le_bytes_4 four stored long each read) ∙ sym (take-add 2064 4 s) in
    let fits : stored < 2 ^ 32 = rw read (stored_lt four long each) in
    let goal : Decides (remainder (bits (take 2068 s)) == 0) (w ≡ stored) =
    Decides-like (remainder (bits (take 2068 s)) == 0)
    (λ none. IsEdc-unique front w stored edc
    (record { fits = fits; divides = ap (λ v. remainder (bits v)) split ∙ none }))
    (λ same. ap (λ v. remainder (bits v))
    (sym split ∙ ap (λ n. front ++ to_le_bytes w32 n) (sym same)) ∙ edc.divides)
    (Decides-eqb (remainder (bits (take 2068 s))) 0) in
    one_answer r (remainder (bits (take 2068 s)) == 0) known goal
