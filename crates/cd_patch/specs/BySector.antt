-- The effect of patches on each sector, in plain terms: its header, its bytes, and whether it is
-- consistent or damaged.
use Rattle.std.specs.Prelude.{◌≡◌, ℕ, ◌+◌, ◌-◌, ◌*◌, ◌<◌, nat_lt, nat_le, Bool, true, false, not, ◌&&◌, ◌||◌, if◌then◌else◌, List, [], ◌∷◌, All, length, slice_index, Some}
use Rattle.cd_code.specs.Field.{AreBytes}
use Rattle.cd_script.specs.PatchForm.{Patch}
use Rattle.cd_sector.specs.Carried.{sync_of}
use Rattle.cd_sector.specs.Consistent.{IsConsistent, header_of, user_of}
use Rattle.cd_sector.specs.Defect.{defect_of}
use Rattle.cd_sector.specs.declared.sector.TheConstants.{SECTOR_SIZE, USER_SIZE}
use Rattle.cd_patch.specs.Blocks.{blocks_met, sector_at}
use Rattle.cd_patch.specs.EditMeaning.{keeps_old, new_bytes, new_header}
use Rattle.cd_patch.specs.Outcome.{is_applied}
use Rattle.cd_patch.specs.declared.outcome.Outcome.{Outcome}

-- a sector: 2352 bytes
pub record IsSector (sector : List ℕ) : Type 0 where
  pub size : length sector ≡ SECTOR_SIZE
  pub bytes : AreBytes sector

-- a patch meets the block
abbrev pub meets : Patch → ℕ → Bool
meets p block = nat_le p.block block && nat_lt block (p.block + blocks_met p)

-- an accepted patch meets the block
abbrev pub is_met : List Patch → List Outcome → ℕ → Bool
is_met [] os block = false
is_met (p ∷ ps) [] block = false
is_met (p ∷ ps) (o ∷ os) block = (is_applied o && meets p block) || is_met ps os block

-- the user byte at an offset of a block after an accepted patch: the patch's own byte if its range
-- has this place, else the old byte
abbrev pub byte_by : Patch → ℕ → ℕ → ℕ → ℕ
byte_by p block offset before =
    let place = USER_SIZE * (block - p.block) + offset in
    if nat_le p.block block
    && (nat_le p.offset place && nat_lt place (p.offset + length (new_bytes p.edit)))
    then slice_index (new_bytes p.edit) (place - p.offset) else before

-- the user byte after the accepted patches, in order
abbrev pub byte_left : List Patch → List Outcome → ℕ → ℕ → ℕ → ℕ
byte_left [] os block offset before = before
byte_left (p ∷ ps) [] block offset before = before
byte_left (p ∷ ps) (o ∷ os) block offset before =
    byte_left ps os block offset (if is_applied o then byte_by p block offset before else before)

-- the header after the accepted patches, in order
abbrev pub header_left : List Patch → List Outcome → ℕ → List ℕ → List ℕ
header_left [] os block before = before
header_left (p ∷ ps) [] block before = before
header_left (p ∷ ps) (o ∷ os) block before =
    header_left ps os block
    (if is_applied o && meets p block then new_header p.edit before else before)

-- an accepted rebuild meets the block
abbrev pub is_rebuilt : List Patch → List Outcome → ℕ → Bool
is_rebuilt [] os block = false
is_rebuilt (p ∷ ps) [] block = false
is_rebuilt (p ∷ ps) (o ∷ os) block =
    ((is_applied o && meets p block) && not (keeps_old p.edit)) || is_rebuilt ps os block

-- both sectors have the same damage
pub record SameDamage (before after : List ℕ) : Type 0 where
  pub sync : sync_of after ≡ sync_of before
  pub defect : defect_of after ≡ defect_of before

-- a sector that no accepted patch meets is unchanged. Every other sector has the header and the
-- user bytes that the accepted patches leave in order. If no damage is carried, it is consistent.
-- If damage is carried, it has the sync field and the defect of the old sector, or is consistent if
-- it was rebuilt. A consistent sector stays consistent
pub record LeavesOthers (carry : Bool) (ps : List Patch) (os : List Outcome) (base : ℕ)
    (old last : List (List ℕ)) : Type 0 where
  pub count : length last ≡ length old
  pub sectors : All IsSector last
  pub others : (block : ℕ) → is_met ps os block ≡ false
      → sector_at last base block ≡ sector_at old base block
  pub consistent : (block : ℕ) (before after : List ℕ) → carry ≡ false
      → is_met ps os block ≡ true
      → sector_at old base block ≡ Some before → sector_at last base block ≡ Some after
      → IsConsistent after
  pub rebuilt : (block : ℕ) (before after : List ℕ) → is_rebuilt ps os block ≡ true
      → sector_at old base block ≡ Some before → sector_at last base block ≡ Some after
      → IsConsistent after
  pub carried : (block : ℕ) (before after : List ℕ) → carry ≡ true → is_rebuilt ps os block ≡ false
      → sector_at old base block ≡ Some before → sector_at last base block ≡ Some after
      → SameDamage before after
  pub stays : (block : ℕ) (before after : List ℕ) → IsConsistent before
      → sector_at old base block ≡ Some before → sector_at last base block ≡ Some after
      → IsConsistent after
  pub header : (block : ℕ) (before after : List ℕ)
      → sector_at old base block ≡ Some before → sector_at last base block ≡ Some after
      → header_of after ≡ header_left ps os block (header_of before)
  pub user : (block offset : ℕ) (before after : List ℕ) → offset < USER_SIZE
      → sector_at old base block ≡ Some before → sector_at last base block ≡ Some after
      → slice_index (user_of after) offset
      ≡ byte_left ps os block offset (slice_index (user_of before) offset)
