-- Whether a patch is accepted: its blocks are tested in ascending order, then the old bytes that it
-- names.
use Rattle.std.specs.Prelude.{ℕ, zero, suc, ◌+◌, ◌/◌, ◌%◌, ◌==◌, Bool, not, ◌&&◌, if◌then◌else◌, List, [], ◌∷◌, ◌++◌, drop, Option, Some, None, unwrap_or}
use Rattle.cd_script.specs.PatchForm.{Patch}
use Rattle.cd_sector.specs.Consistent.{consistent, is_mode1, user_of}
use Rattle.cd_sector.specs.Kind.{kind_of}
use Rattle.cd_sector.specs.declared.sector.TheConstants.{USER_SIZE}
use Rattle.cd_patch.specs.Blocks.{blocks_met, sector_at}
use Rattle.cd_patch.specs.EditMeaning.{needs_consistent, old_bytes}
use Rattle.cd_patch.specs.declared.outcome.Outcome.{Outcome}
use Rattle.cd_patch.specs.declared.outcome.Outcome.TheVariants.{Applied, Damaged, Differs, NoBlock, NotMode1}

-- why a block with this sector refuses a patch, or None if it does not refuse. `must_be_consistent`
-- says that the patch needs a consistent sector (`needs_consistent`)
abbrev pub refusal_at : Bool → ℕ → Option (List ℕ) → Option Outcome
refusal_at must_be_consistent block None = Some (NoBlock block)
refusal_at must_be_consistent block (Some sector) =
    if not (is_mode1 (kind_of sector)) then Some (NotMode1 block)
    else if must_be_consistent && not (consistent sector) then Some (Damaged block)
    else None

-- the first of two refusals
abbrev pub either_refusal : Option Outcome → Option Outcome → Option Outcome
either_refusal None other = other
either_refusal (Some refusal) other = Some refusal

-- the first refusal among `count` blocks, tested in ascending order from `block` on
abbrev pub first_refusal : List (List ℕ) → ℕ → Bool → ℕ → ℕ → Option Outcome
first_refusal sectors base must_be_consistent block zero = None
first_refusal sectors base must_be_consistent block (suc count) =
    either_refusal (refusal_at must_be_consistent block (sector_at sectors base block))
    (first_refusal sectors base must_be_consistent (block + 1) count)

-- the user data of a block
abbrev pub user_at : Option (List ℕ) → List ℕ
user_at None = []
user_at (Some sector) = user_of sector

-- the user data of `count` blocks from `block` on, joined
abbrev pub joined_user : List (List ℕ) → ℕ → ℕ → ℕ → List ℕ
joined_user sectors base block zero = []
joined_user sectors base block (suc count) =
    user_at (sector_at sectors base block) ++ joined_user sectors base (block + 1) count

-- the user data of the blocks that a patch meets, joined
unfoldable pub user_met : List (List ℕ) → ℕ → Patch → List ℕ
user_met sectors base p = joined_user sectors base p.block (blocks_met p)

-- the place of the first byte that differs from the old one; `bytes` begins at `place`
abbrev pub first_difference : ℕ → List ℕ → List ℕ → Option ℕ
first_difference place bytes [] = None
first_difference place [] (old ∷ others) = Some place
first_difference place (b ∷ bytes) (old ∷ others) =
    if b == old then first_difference (place + 1) bytes others else Some place

-- the outcome of a patch, by the place of the first difference in the joined user data of its
-- blocks
abbrev pub by_difference : ℕ → Option ℕ → Outcome
by_difference block None = Applied
by_difference block (Some place) = Differs (block + place / USER_SIZE) (place % USER_SIZE)

-- the outcome of a patch, with damage carried or not
unfoldable pub outcome : Bool → List (List ℕ) → ℕ → Patch → Outcome
outcome carry sectors base p =
    unwrap_or (first_refusal sectors base (needs_consistent carry p.edit) p.block (blocks_met p))
    (by_difference p.block
    (first_difference p.offset (drop p.offset (user_met sectors base p)) (old_bytes p.edit)))
