-- The extent of a patch: at most three blocks, and its range lies in the blocks that it meets.
use Rattle.std.proofs.Common.{ℕ, ◌+◌, ◌*◌, ◌<◌, ◌≤◌, length, arith}
use Rattle.cd_script.specs.Patch.{IsPatch}
use Rattle.cd_script.specs.PatchForm.{Patch}
use Rattle.cd_sector.specs.declared.sector.TheConstants.{USER_SIZE}
use Rattle.cd_patch.specs.Blocks.{block_limit, blocks_met}
use Rattle.cd_patch.specs.EditMeaning.{new_bytes, old_bytes}
use Rattle.cd_patch.proofs.MeaningLemmas.{patch-fits}

pub blocks_met-most : (p : Patch) → IsPatch p → blocks_met p ≤ block_limit
unfolding blocks_met
blocks_met-most p h = omega (arith, (patch-fits p h).room)

pub range-inside : (p : Patch) → p.offset + length (new_bytes p.edit) ≤ USER_SIZE * blocks_met p
unfolding blocks_met
range-inside p = omega arith

pub old-fits : (p : Patch) → IsPatch p
    → (p.offset + length (old_bytes p.edit) ≤ USER_SIZE * blocks_met p)
    × (p.offset + length (old_bytes p.edit) ≤ USER_SIZE * block_limit)
old-fits p h =
    let within = (patch-fits p h).must_be_consistent in
    (omega (arith, range-inside p), omega (arith, (patch-fits p h).room))

-- a range lies in each of its blocks, and no patch meets more than three blocks
pub record Spans (offset count blocks : ℕ) : Type 0 where
  pub few : blocks ≤ block_limit
  pub some : USER_SIZE * blocks < offset + count + USER_SIZE
  pub room : offset + count ≤ USER_SIZE * blocks

pub range-spans : (p : Patch) → IsPatch p → 1 ≤ length (new_bytes p.edit)
    → Spans p.offset (length (new_bytes p.edit)) (blocks_met p)
unfolding blocks_met
range-spans p h some =
    let all = (patch-fits p h).room in
    record { few = omega arith; some = omega arith; room = omega arith }
