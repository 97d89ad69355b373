-- The progress of a run of patches over an image, whoever reads and writes.
use Rattle.std.specs.Prelude.{◌≡◌, ℕ, zero, suc, ◌+◌, ◌*◌, ◌<◌, ◌≤◌, ◌⊎◌, ◌++◌, Bool, true, false, List, [], All}
use Rattle.std.specs.Prelude.{length, take, Option, None, Some, IsSome}
use Rattle.std.specs.List.{slice_index_or}
use Rattle.cd_script.specs.PatchForm.{Patch}
use Rattle.cd_sector.specs.declared.sector.TheConstants.{SECTOR_SIZE}
use Rattle.cd_patch.specs.Blocks.{block_limit, blocks_met}
use Rattle.cd_patch.specs.Sequence.{PatchSequence}
use Rattle.cd_patch.specs.declared.outcome.Outcome.{Outcome}
use Rattle.cd_sector.specs.Image.{image_limit, bytes_of, sector_limit}
use Rattle.cd_run.specs.InHand.{bytes_in_hand}
use Rattle.cd_run.specs.PatchLog.{applied_count}
use Rattle.cd_run.specs.declared.run.PatchRun.{PatchRun}

-- the bytes of the tail; none before the image has ended
abbrev pub tail_bytes : Option (List ℕ) → List ℕ
tail_bytes None = []
tail_bytes (Some bytes) = bytes

-- the bytes sent: the sectors, and the tail once it was sent
abbrev pub sent_bytes : List (List ℕ) → Option (List ℕ) → Bool → List ℕ
sent_bytes done tail false = bytes_of done
sent_bytes done tail true = bytes_of done ++ tail_bytes tail

-- the numbers of a run: the image is not too long, no more bytes are in hand than may be, and the
-- block and the counts are those that the run has reached
pub record RunCounts (base : ℕ) (seen done window : List (List ℕ)) (outcomes : List Outcome)
    (block sectors applied : ℕ) (tail : Option (List ℕ)) : Type 0 where
  pub short : length (tail_bytes tail) < SECTOR_SIZE
  pub within : SECTOR_SIZE * sectors + length (tail_bytes tail) ≤ image_limit
  pub in_hand : SECTOR_SIZE * length window + length (tail_bytes tail) ≤ bytes_in_hand
  pub front : block ≡ base + length done
  pub count : sectors ≡ length seen
  pub held : length done + length window ≡ length seen
  pub counted : applied ≡ applied_count outcomes

-- the sectors `seen` were read and `done` were sent; `window` and `tail` are in hand, and the tail
-- was sent if `closed`. The patches `taken` have these outcomes, and the patches `left` remain.
-- `block` is the first block that was not sent, `sectors` is the number of sectors read, and
-- `applied` the number of patches accepted
pub record Reached (carry : Bool) (taken left : List Patch) (base : ℕ)
    (seen done window : List (List ℕ)) (outcomes : List Outcome) (block sectors applied : ℕ)
    (tail : Option (List ℕ)) (closed : Bool) : Type 0 where
  pub seen_sizes : All (λ sector. length sector ≡ SECTOR_SIZE) seen
  pub done_sizes : All (λ sector. length sector ≡ SECTOR_SIZE) done
  pub counts : RunCounts base seen done window outcomes block sectors applied tail
  -- whatever sectors may still follow, the decided patches turn the sectors read into those sent
  -- and those in hand
  pub run : (more : List (List ℕ)) → (IsSome tail → more ≡ [])
      → PatchSequence carry taken outcomes base (seen ++ more) (done ++ (window ++ more))
  -- until the tail was sent, the decided patches begin at sectors that were read, or before the
  -- first
  pub due : closed ≡ false → All (λ p. (p.block ≤ block) × (p.block < base + sectors)) taken
  -- once something was read, the remaining patches do not begin before the front block
  pub ahead : ((sectors ≡ 0) × (tail ≡ None)) ⊎ All (λ p. block ≤ p.block) left
  -- until the image has ended, the decided patches meet only blocks that an image may have
  pub reached : tail ≡ None → All (λ p. p.block + blocks_met p ≤ base + sector_limit) taken
  pub closes : closed ≡ true → (window ≡ []) × IsSome tail

-- ---- the state of a run

-- the tail in a place, if the image has ended
abbrev pub tail_at : ℕ → List ℕ → Option (List ℕ)
tail_at zero bytes = None
tail_at (suc n) bytes = Some bytes

-- whether the tail was sent
abbrev pub closed_at : ℕ → Bool
closed_at zero = false
closed_at (suc zero) = false
closed_at (suc (suc n)) = true

-- the sectors in hand, at the front of the memory that is lent
abbrev pub window_of : PatchRun → List (List ℕ) → List (List ℕ)
window_of run hand = take run.held hand

-- the tail, in the place after the sectors in hand
abbrev pub tail_of : PatchRun → List (List ℕ) → Option (List ℕ)
tail_of run hand = tail_at run.stage (take run.tail (slice_index_or hand run.held []))

-- the fields have values that a run may have
pub record IsRun (run : PatchRun) : Type 0 where
  pub held : run.held ≤ block_limit
  pub stage : run.stage ≤ 2
  pub room : (run.stage ≡ 0) ⊎ (run.held < block_limit)
  pub tail : run.tail < SECTOR_SIZE
  pub closed : (run.stage ≤ 1) ⊎ (run.held ≡ 0)
  pub sectors : run.sectors ≤ sector_limit

-- `Reached`, for the fields of a run and the sectors in hand
abbrev pub HasReached : Bool → List Patch → List Patch → ℕ → List (List ℕ) → List (List ℕ)
    → List Outcome → PatchRun → List (List ℕ) → Type 0
HasReached carry taken left base seen done outcomes run hand =
    Reached carry taken left base seen done (window_of run hand) outcomes run.block run.sectors
    run.applied (tail_of run hand) (closed_at run.stage)
