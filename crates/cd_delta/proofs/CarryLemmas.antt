-- A change of a sector that keeps the error of its EDC carries its damage.
use Rattle.std.proofs.Common.{◌≡◌, ℕ, ◌^◌, ◌<◌, ◌≤◌, inl, List, length, take, bit_xor, sym, ap, ap₂, ◌∙◌, arith}
use Rattle.std.specs.Prelude.{slice_range}
use Rattle.std.specs.Int.{from_le_bytes, to_le_bytes, w32}
use Rattle.std.proofs.lemmas.Nat.{from_le_bytes-to_le_bytes_4, le_bytes_4, xor_lt}
use Rattle.cd_code.specs.Edc.{IsEdc}
use Rattle.cd_code.specs.Field.{AreBytes}
use Rattle.cd_code.proofs.ByteLemmas.{AreBytes-drop, AreBytes-take}
use Rattle.cd_code.proofs.general.Lists.{length-part, part-same}
use Rattle.cd_code.proofs.EdcLemmas.{IsEdc-unique}
use Rattle.cd_code.proofs.general.Xor.{xor_common, xor_twice_left}
use Rattle.cd_sector.specs.Carried.{IsCarried, sync_of}
use Rattle.cd_sector.specs.Consistent.{IsConsistent, header_of, user_of}
use Rattle.cd_sector.specs.EdcField.{StoresEdc}
use Rattle.cd_sector.specs.Kind.{kind_of}
use Rattle.cd_sector.proofs.CarriedLemmas.{defect-same}
use Rattle.cd_sector.proofs.EdcPlaceLemmas.{StoresEdc-remainder}
use Rattle.cd_delta.specs.Writing.{IsChanged}
use Rattle.cd_delta.proofs.UserLemmas.{IsConsistent-of}

-- ---- the stored word

-- the xor of the correct word and the stored one is the error
pub StoresEdc-read : (s : List ℕ) (w stored : ℕ) → length s ≡ 2352 → AreBytes s
    → IsEdc (take 2064 s) w → stored < 2 ^ 32
    → stored ≡ from_le_bytes w32 (slice_range s 2064 2068) → StoresEdc s (bit_xor w stored)
StoresEdc-read s w stored size each word fits same =
    let four = slice_range s 2064 2068 in
    record {
      word = w;
      fits = xor_lt 32 w stored word.fits fits;
      is_word = word;
      at_end =
          sym
          (ap (to_le_bytes w32) (xor_twice_left w stored)
          ∙ le_bytes_4 four stored (length-part s 2064 4 (omega (arith, size)))
          (AreBytes-take _ 4 (AreBytes-drop s 2064 each)) same);
    }

StoresEdc-word : {s : List ℕ} {error : ℕ} → (h : StoresEdc s error)
    → from_le_bytes w32 (slice_range s 2064 2068) ≡ bit_xor h.word error
StoresEdc-word {s} {error} h =
    ap (from_le_bytes w32) h.at_end
    ∙ from_le_bytes-to_le_bytes_4 (bit_xor h.word error)
    (xor_lt 32 h.word error h.is_word.fits h.fits)

-- with the same error, the stored words have the same xor as the correct ones
pub stored-sum : {old new : List ℕ} {error : ℕ} → StoresEdc old error → StoresEdc new error
    → (before after : ℕ)
    → IsEdc (take 2064 old) before → IsEdc (take 2064 new) after
    → from_le_bytes w32 (slice_range new 2064 2068)
    ≡ bit_xor (from_le_bytes w32 (slice_range old 2064 2068)) (bit_xor before after)
stored-sum {old} {new} {error} h k before after one two =
    let w = h.word in
    let v = k.word in
    StoresEdc-word k
    ∙ sym
    (ap₂ bit_xor (StoresEdc-word h)
    (ap₂ bit_xor (IsEdc-unique (take 2064 old) before w one h.is_word)
    (IsEdc-unique (take 2064 new) after v two k.is_word))
    ∙ xor_common w error v)

-- ---- the sector

pub carried-of : {old new : List ℕ} {place : ℕ} {bytes : List ℕ} {error : ℕ}
    → IsChanged old new place bytes error → StoresEdc old error
    → 12 ≤ place → (header user : List ℕ) → header_of new ≡ header → user_of new ≡ user
    → IsCarried old header user new
unfolding sync_of
carried-of {old} {new} h stored from header user same_header same_user =
    let size = h.size in
    let same_size = h.same_size in
    record {
      size = size;
      bytes = h.each;
      same_sync = part-same new old 0 12 (omega arith) (omega arith)
          (λ i _ below. h.front i (omega arith) (inl (omega arith)));
      has_header = same_header;
      has_user = same_user;
      same_defect =
          defect-same new old
          (part-same new old 2068 8 (omega arith) (omega arith)
          (λ i low high. h.zeros i low (omega arith)))
          (StoresEdc-remainder h.edc ∙ sym (StoresEdc-remainder stored)) h.syndromes;
    }

pub carried-consistent : {old new : List ℕ} {place : ℕ} {bytes : List ℕ} {error : ℕ}
    → IsChanged old new place bytes error → StoresEdc old error
    → kind_of new ≡ kind_of old → IsConsistent old → IsConsistent new
carried-consistent h stored kind sound =
    IsConsistent-of h
    (StoresEdc-remainder h.edc ∙ sym (StoresEdc-remainder stored) ∙ sound.edc) kind sound
