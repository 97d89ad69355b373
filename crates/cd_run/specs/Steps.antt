-- The next step in a run of patches.
use Rattle.std.specs.Prelude.{◌≡◌, ℕ, ◌+◌, ◌-◌, ◌*◌, ◌<◌, ◌≤◌, ◌⊎◌, List, [], ◌∷◌, All, Option, None, Some}
use Rattle.cd_script.specs.PatchForm.{Patch}
use Rattle.cd_patch.specs.Blocks.{block_limit, blocks_met}
use Rattle.cd_sector.specs.Image.{sector_limit}
use Rattle.cd_run.specs.declared.run.Ahead.{Ahead}
use Rattle.cd_run.specs.declared.run.PatchRun.{PatchRun}
use Rattle.cd_run.specs.declared.run.Step.{Step}
use Rattle.cd_run.specs.declared.run.Step.TheVariants.{Copy, Read, Decide, Send, SendTail, End}

-- why a sector is read while `count` sectors from a block on are in hand: none is in hand, and no
-- remaining patch begins at or before the block; or the first remaining patch begins at the block
-- and meets more blocks than `count`
pub data WantsMore (left : List Patch) (block count : ℕ) : Type 0 where
  none_held : count ≡ 0 → All (λ p. block < p.block) left → WantsMore left block count
  patch_meets : (p : Patch) (others : List Patch) → left ≡ p ∷ others → p.block ≡ block
      → count < blocks_met p → WantsMore left block count

-- why a patch can be decided: it begins at the first sector in hand, and all sectors that it meets
-- are in hand or the image has ended; or it begins before the image, and nothing was read yet; or
-- the tail was sent
pub data MayDecide (p : Patch) (held block sectors stage : ℕ) : Type 0 where
  at_front : p.block ≡ block → 0 < held → stage ≤ 1 → (blocks_met p ≤ held) ⊎ (0 < stage)
      → MayDecide p held block sectors stage
  under_base : p.block < block → sectors ≡ 0 → stage ≡ 0 → MayDecide p held block sectors stage
  past_tail : stage ≡ 2 → block ≤ p.block → MayDecide p held block sectors stage

-- the first remaining patch, if there is one. The number of blocks that it meets has to be right
-- only if it begins at the front block
abbrev pub IsAhead : List Patch → ℕ → Option Ahead → Type 0
IsAhead left block None = left ≡ []
IsAhead left block (Some ahead) =
    (p : Patch) × (others : List Patch) × (left ≡ p ∷ others) × (p.block ≡ ahead.block)
    × (p.block ≡ block → blocks_met p ≡ ahead.blocks_met)

-- the state of the run in which a step of each kind is due
abbrev pub IsReady : PatchRun → Step → Type 0
IsReady run (Copy count) =
    (run.held ≡ 0) × (run.stage ≡ 0) × (0 < count) × (run.sectors + count ≤ sector_limit)
IsReady run Read = (run.stage ≡ 0) × (run.held < block_limit)
IsReady run Decide = Unit {0}
IsReady run Send = 0 < run.held
IsReady run SendTail = (run.held ≡ 0) × (run.stage ≡ 1)
IsReady run End = (run.held ≡ 0) × (run.stage ≡ 2)

-- the remaining patches with which a step of each kind is due
abbrev pub IsNext : List Patch → PatchRun → Step → Type 0
IsNext left run (Copy count) = All (λ p. run.block + count ≤ p.block) left
IsNext left run Read = WantsMore left run.block run.held × All (λ p. run.block ≤ p.block) left
IsNext left run Decide =
    (p : Patch) × (others : List Patch) × (left ≡ p ∷ others)
    × MayDecide p run.held run.block run.sectors run.stage
IsNext left run Send = All (λ p. run.block < p.block) left
IsNext left run SendTail = Unit {0}
IsNext left run End = left ≡ []

-- the largest number of steps that a run with `count` patches has left: each sector is read and
-- sent, each patch is decided, and the image ends. Each step reduces it, so the run ends
abbrev pub machine_steps : ℕ → PatchRun → ℕ
machine_steps count run =
    2 * (sector_limit - run.sectors) + run.held + (count - run.decided) + (2 - run.stage)
