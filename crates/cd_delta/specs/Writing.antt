-- The effects of writing bytes before the parity of a sector and updating the parity (ECMA-130,
-- Annex A). All but `with_range` is plumbing.
use Rattle.std.specs.Prelude.{◌≡◌, ℕ, ◌+◌, ◌<◌, ◌≤◌, ◌⊎◌, List, ◌++◌, length, take, drop, slice_index}
use Rattle.cd_code.specs.Field.{AreBytes}
use Rattle.cd_code.specs.CodeWords.{SameSyndromes}
use Rattle.cd_sector.specs.EdcField.{StoresEdc}

-- the user data with `bytes` at `offset`, in place of the bytes that were there
unfoldable pub with_range : List ℕ → ℕ → List ℕ → List ℕ
with_range user offset bytes = take offset user ++ (bytes ++ drop (offset + length bytes) user)

-- plumbing of `write_few`: a sector contains the first `count` bytes of a list from `place` on; no
-- other byte before the parity has changed, and no syndrome
pub record IsWritten (old new : List ℕ) (place count : ℕ) (bytes : List ℕ) : Type 0 where
  pub size : length new ≡ length old
  pub each : AreBytes old → AreBytes new
  pub range : (i : ℕ) → i < count → slice_index new (place + i) ≡ slice_index bytes i
  pub front : (i : ℕ) → i < 2076 → (i < place) ⊎ (place + count ≤ i)
      → slice_index new i ≡ slice_index old i
  pub syndromes : SameSyndromes new old

-- plumbing of `write_edc`: the EDC with `error` added is written, and the parity is updated
pub record WithEdc (old new : List ℕ) (error : ℕ) : Type 0 where
  pub size : length new ≡ 2352
  pub each : AreBytes new
  pub same_size : length new ≡ length old
  pub edc : StoresEdc new error
  pub front : (i : ℕ) → i < 2076 → (i < 2064) ⊎ (2068 ≤ i) → slice_index new i ≡ slice_index old i
  pub syndromes : SameSyndromes new old

-- the effect of `change_bytes`: the sector contains `bytes` from `place` on, and the EDC with
-- `error` added; no other byte before the parity has changed, and no syndrome
pub record IsChanged (old new : List ℕ) (place : ℕ) (bytes : List ℕ) (error : ℕ) : Type 0 where
  pub fits : place + length bytes ≤ 2064
  pub size : length new ≡ 2352
  pub same_size : length new ≡ length old
  pub each : AreBytes new
  pub range : (i : ℕ) → i < length bytes → slice_index new (place + i) ≡ slice_index bytes i
  pub front : (i : ℕ) → i < 2064 → (i < place) ⊎ (place + length bytes ≤ i)
      → slice_index new i ≡ slice_index old i
  pub zeros : (i : ℕ) → 2068 ≤ i → i < 2076 → slice_index new i ≡ slice_index old i
  pub edc : StoresEdc new error
  pub syndromes : SameSyndromes new old

-- the effect of `carry_bytes`: as `IsChanged`, where `error` is the error that the EDC had before
pub record KeepsError (old new : List ℕ) (place : ℕ) (bytes : List ℕ) : Type 0 where
  pub error : ℕ
  pub before : StoresEdc old error
  pub changed : IsChanged old new place bytes error
