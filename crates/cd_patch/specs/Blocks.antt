-- The blocks that a patch meets.
use Rattle.std.specs.Prelude.{ℕ, ◌+◌, ◌-◌, ◌/◌, nat_lt, if◌then◌else◌, List, length, slice_get, Option, None}
use Rattle.cd_script.specs.PatchForm.{Edit, Patch}
use Rattle.cd_sector.specs.declared.sector.TheConstants.{USER_SIZE}
use Rattle.cd_patch.specs.EditMeaning.{new_bytes}

-- the largest number of blocks that a patch may meet
abbrev pub block_limit : ℕ
block_limit = 3

-- the number of blocks in which `count` bytes from an offset on lie; no bytes count as lying in one
-- block
abbrev pub blocks_spanned : ℕ → ℕ → ℕ
blocks_spanned offset count = (offset + count - 1) / USER_SIZE + 1

-- the number of blocks that an edit at an offset meets
abbrev pub blocks_of : ℕ → Edit → ℕ
blocks_of offset edit = blocks_spanned offset (length (new_bytes edit))

-- the number of blocks that a patch meets: its first block, and those after it
unfoldable pub blocks_met : Patch → ℕ
blocks_met p = blocks_of p.offset p.edit

-- the sector of a block, if it is among these sectors, which start at block `base`
unfoldable pub sector_at : List (List ℕ) → ℕ → ℕ → Option (List ℕ)
sector_at sectors base block = if nat_lt block base then None else slice_get sectors (block - base)
