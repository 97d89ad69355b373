-- Laws that follow from the definitions of patches. Each is the contract of a function in
-- `laws.rt`.
use Rattle.std.specs.Prelude.{◌≡◌, ◌↔◌, ℕ, ◌+◌, ◌≤◌, ◌≢◌, Bool, true, false, List, All, take, slice_get, Some}
use Rattle.std.specs.List.Sorted.{IsNonDecreasingBy}
use Rattle.cd_script.specs.Patch.{IsPatch}
use Rattle.cd_script.specs.PatchForm.{Patch}
use Rattle.cd_patch.specs.Blocks.{block_limit}
use Rattle.cd_patch.specs.Deciding.{outcome}
use Rattle.cd_patch.specs.Effect.{Effect}
use Rattle.cd_patch.specs.BySector.{IsSector, LeavesOthers}
use Rattle.cd_patch.specs.Hand.{HandSequence, hand, put_back}
use Rattle.cd_patch.specs.Sequence.{PatchSequence}
use Rattle.cd_patch.specs.declared.outcome.Outcome.{Outcome}
use Rattle.cd_patch.specs.declared.outcome.Outcome.TheVariants.{Applied, Damaged}

-- the patches and the sectors determine the outcomes and the final sectors of a run
abbrev pub SequenceIsDetermined : Type 0
SequenceIsDetermined =
    (carry : Bool) (ps : List Patch) (os os' : List Outcome) (base : ℕ)
    (old last last' : List (List ℕ))
    → PatchSequence carry ps os base old last → PatchSequence carry ps os' base old last'
    → (os ≡ os') × (last ≡ last')

-- each list of patches has a run on each list of sectors
abbrev pub SequenceExists : Type 0
SequenceExists =
    (carry : Bool) (ps : List Patch) (base : ℕ) (old : List (List ℕ)) → All IsPatch ps
    → All IsSector old
    → (os : List Outcome) × (last : List (List ℕ)) × PatchSequence carry ps os base old last
    × All IsSector last

-- if the first i + block_limit sectors of two images are equal, the patches up to block base + i
-- have equal outcomes on both, and leave equal sectors 0 to i
abbrev pub SequencesAgree : Type 0
SequencesAgree =
    (carry : Bool) (i base : ℕ) (ps : List Patch) (os os' : List Outcome)
    (old old' last last' : List (List ℕ))
    → All IsPatch ps → IsNonDecreasingBy (λ p. p.block) ps
    → take (i + block_limit) old ≡ take (i + block_limit) old'
    → PatchSequence carry ps os base old last → PatchSequence carry ps os' base old' last'
    → ((k : ℕ) (p : Patch) → slice_get ps k ≡ Some p → p.block ≤ base + i
    → slice_get os k ≡ slice_get os' k)
    × (take (i + 1) last ≡ take (i + 1) last')

-- the result of a run is as `LeavesOthers` says
abbrev pub SequenceLeavesOthers : Type 0
SequenceLeavesOthers =
    (carry : Bool) (ps : List Patch) (os : List Outcome) (base : ℕ) (old last : List (List ℕ))
    → All IsPatch ps → All IsSector old
    → PatchSequence carry ps os base old last → LeavesOthers carry ps os base old last

-- the conditions of `LeavesOthers` determine the result of a run
abbrev pub LeavesOne : Type 0
LeavesOne =
    (carry : Bool) (ps : List Patch) (os : List Outcome) (base : ℕ) (old last last' : List (List ℕ))
    → LeavesOthers carry ps os base old last → LeavesOthers carry ps os base old last'
    → last ≡ last'

-- ---- the hand stands for the image

-- a patch has the same outcome on its hand as on the image, and its effect on the hand, put back,
-- is its effect on the image
abbrev pub HandStandsForImage : Type 0
HandStandsForImage =
    (carry : Bool) (base : ℕ) (p : Patch) (sectors changed : List (List ℕ)) → IsPatch p
    → (outcome carry (hand sectors base p.block) p.block p ≡ outcome carry sectors base p)
    × (Effect carry p.block p (hand sectors base p.block) changed
    → Effect carry base p sectors (put_back sectors base p.block changed))

-- applying patches hand by hand is a run, and each run can be made this way
abbrev pub HandSequenceIsRun : Type 0
HandSequenceIsRun =
    (carry : Bool) (ps : List Patch) (os : List Outcome) (base : ℕ) (old last : List (List ℕ))
    → All IsPatch ps
    → HandSequence carry ps os base old last ↔ PatchSequence carry ps os base old last

-- ---- if there is nothing to carry

-- a patch that is accepted without carrying damage is also accepted with it, and leaves equal
-- sectors
abbrev pub NothingToCarry : Type 0
NothingToCarry =
    (base : ℕ) (p : Patch) (old new : List (List ℕ)) → outcome false old base p ≡ Applied
    → Effect false base p old new
    → (outcome true old base p ≡ Applied) × Effect true base p old new

-- if damage is carried, no patch is refused for damage
abbrev pub NeverDamaged : Type 0
NeverDamaged =
    (base block : ℕ) (p : Patch) (sectors : List (List ℕ))
    → outcome true sectors base p ≢ Damaged block
