-- Plumbing of `apply_patch`: the effect of an edit on each of the sectors that its patch meets.
use Rattle.std.specs.Prelude.{◌≡◌, ℕ, ◌+◌, ◌*◌, ◌<◌, ◌≤◌, ◌⊎◌, Bool, List, [], length, replicate, slice_index, slice_index_or}
use Rattle.cd_sector.specs.Consistent.{user_of}
use Rattle.cd_sector.specs.declared.sector.TheConstants.{USER_SIZE}
use Rattle.cd_patch.specs.Effect.{Becomes}
use Rattle.cd_patch.specs.declared.edits.NewBytes.{NewBytes}
use Rattle.cd_patch.specs.declared.edits.NewBytes.TheVariants.{Borrowed, Repeated}

-- the bytes that the code has to write
abbrev pub bytes_to_write : NewBytes → List ℕ
bytes_to_write (Borrowed bytes) = bytes.now
bytes_to_write (Repeated count value) = replicate count value

-- each of the first `count` sectors has its 2048 bytes of user data
abbrev pub HaveUsers : List (List ℕ) → ℕ → Type 0
HaveUsers sectors count =
    (k : ℕ) → k < count → length (user_of (slice_index_or sectors k [])) ≡ USER_SIZE

-- bytes `first` to `end` of a range are at `place` to `place + end - first` of the user data of
-- block k, and no other byte of the range lies in that block; the range has `count` bytes and
-- begins at `offset` in the joined user data
pub record IsPart (k offset count place first end : ℕ) : Type 0 where
  pub rises : first ≤ end
  pub within : end ≤ count
  pub fits : place + end ≤ USER_SIZE + first
  pub lies : USER_SIZE * k + place ≡ offset + first
  pub from_start : (first ≡ 0) ⊎ (place ≡ 0)
  pub to_end : (end ≡ count) ⊎ (place + end ≡ USER_SIZE + first)

-- the sector with index k has this header and the part of the bytes that lies in it. All other user
-- bytes are unchanged, and the sector is consistent, or keeps its defect if damage is carried
pub record HasPart (carried : Bool) (k offset : ℕ)
    (bytes header before after : List ℕ) : Type 0 where
  pub made : Becomes carried before header (user_of after) after
  pub inside : (i j : ℕ) → i < length bytes → j < USER_SIZE → USER_SIZE * k + j ≡ offset + i
      → slice_index (user_of after) j ≡ slice_index bytes i
  pub outside : (j : ℕ) → j < USER_SIZE
      → (USER_SIZE * k + j < offset) ⊎ (offset + length bytes ≤ USER_SIZE * k + j)
      → slice_index (user_of after) j ≡ slice_index (user_of before) j

-- the same number of sectors, each related to the old one by the rule for its index
pub record EachBecomes (Rule : ℕ → List ℕ → List ℕ → Type 0) (old new : List (List ℕ)) : Type 0
  where
    pub size : length new ≡ length old
    pub each : (k : ℕ) → k < length old → Rule k (slice_index_or old k []) (slice_index_or new k [])
