-- The effect of a patch, as a relation between the sectors before and after it. The relation states
-- facts about both, and calculates no sector. A law says that there is only one result.
use Rattle.std.specs.Prelude.{◌≡◌, ℕ, ◌+◌, ◌*◌, ◌<◌, ◌≤◌, ◌⊎◌, Bool, true, false, List, length, slice_range, Some}
use Rattle.cd_script.specs.PatchForm.{Edit, Patch}
use Rattle.cd_sector.specs.Carried.{IsCarried}
use Rattle.cd_sector.specs.Consistent.{IsConsistent, header_of, user_of}
use Rattle.cd_sector.specs.declared.sector.TheConstants.{USER_SIZE}
use Rattle.cd_delta.specs.Writing.{with_range}
use Rattle.cd_patch.specs.Blocks.{blocks_met, sector_at}
use Rattle.cd_patch.specs.EditMeaning.{keeps_defect, new_bytes, new_header}
use Rattle.cd_patch.specs.Deciding.{outcome, user_met}
use Rattle.cd_patch.specs.declared.outcome.Outcome.{Outcome}
use Rattle.cd_patch.specs.declared.outcome.Outcome.TheVariants.{Applied, Damaged, Differs, NoBlock, NotMode1}

-- the consistent sector with this header and user data
pub record IsRemade (header user sector : List ℕ) : Type 0 where
  pub is_consistent : IsConsistent sector
  pub has_header : header_of sector ≡ header
  pub has_user : user_of sector ≡ user

-- the result for a sector, with this header and user data: if damage is carried, it keeps its old
-- sync field and defect (`IsCarried`), else it is consistent (`IsRemade`)
abbrev pub Becomes : Bool → List ℕ → List ℕ → List ℕ → List ℕ → Type 0
Becomes false old header user new = IsRemade header user new
Becomes true old header user new = IsCarried old header user new

-- the result of an edit that gives a sector this user data: if damage is carried, each edit except
-- `rebuild` keeps the old defect; else the result is the consistent sector
abbrev pub EditResult : Bool → Edit → List ℕ → List ℕ → List ℕ → Type 0
EditResult carry edit old user new =
    Becomes (keeps_defect carry edit) old (new_header edit (header_of old)) user new

-- the user data of the blocks that a patch meets, joined, with the new bytes in the patch's range
unfoldable pub patched_user : List (List ℕ) → ℕ → Patch → List ℕ
patched_user sectors base p = with_range (user_met sectors base p) p.offset (new_bytes p.edit)

-- the part of joined user data that lies in the block with index k among the joined ones
unfoldable pub user_part : List ℕ → ℕ → List ℕ
user_part user k = slice_range user (USER_SIZE * k) (USER_SIZE * (k + 1))

-- the effect of an accepted patch: each block that it meets has the new header and its part of the
-- patched user data, and is consistent, or has the old defect if damage is carried. Every other
-- block is unchanged
pub record IsApplied (carry : Bool) (base : ℕ) (p : Patch) (old new : List (List ℕ)) : Type 0 where
  pub count : length new ≡ length old
  pub met : (k : ℕ) (before after : List ℕ) → k < blocks_met p
      → sector_at old base (p.block + k) ≡ Some before
      → sector_at new base (p.block + k) ≡ Some after
      → EditResult carry p.edit before (user_part (patched_user old base p) k) after
  pub others : (block : ℕ) → (block < p.block) ⊎ (p.block + blocks_met p ≤ block)
      → sector_at new base block ≡ sector_at old base block

-- an accepted patch is applied; a refused patch changes nothing, whatever the reason
abbrev pub EffectOf : Bool → Outcome → ℕ → Patch → List (List ℕ) → List (List ℕ) → Type 0
EffectOf carry Applied base p old new = IsApplied carry base p old new
EffectOf carry (NoBlock block) base p old new = new ≡ old
EffectOf carry (NotMode1 block) base p old new = new ≡ old
EffectOf carry (Damaged block) base p old new = new ≡ old
EffectOf carry (Differs block offset) base p old new = new ≡ old

-- the effect of a patch on the sectors `old`, which start at block `base`
abbrev pub Effect : Bool → ℕ → Patch → List (List ℕ) → List (List ℕ) → Type 0
Effect carry base p old new = EffectOf carry (outcome carry old base p) base p old new
