-- The hand: the few sectors of an image to which a caller applies a patch. The caller gets the
-- patch's outcome there, and puts the sectors back into the image.
use Rattle.std.specs.Prelude.{◌≡◌, ℕ, ◌+◌, ◌-◌, nat_lt, if◌then◌else◌, Bool, List, [], ◌∷◌, ◌++◌, take, drop}
use Rattle.cd_script.specs.PatchForm.{Patch}
use Rattle.cd_patch.specs.Blocks.{block_limit}
use Rattle.cd_patch.specs.Sequence.{PatchThen}
use Rattle.cd_patch.specs.declared.outcome.Outcome.{Outcome}

-- at most `block_limit` sectors from a block on; none if the block is before the first sector or
-- after the last one
unfoldable pub hand : List (List ℕ) → ℕ → ℕ → List (List ℕ)
hand sectors base block =
    if nat_lt block base then [] else take block_limit (drop (block - base) sectors)

-- the sectors, with that hand replaced by `changed`
unfoldable pub put_back : List (List ℕ) → ℕ → ℕ → List (List ℕ) → List (List ℕ)
put_back sectors base block changed =
    if nat_lt block base then sectors
    else take (block - base) sectors ++ (changed ++ drop (block - base + block_limit) sectors)

-- `PatchSequence` by hands: each patch is applied to its hand of the sectors that the earlier ones
-- left, and the resulting hand is put back
abbrev pub HandSequence : Bool → List Patch → List Outcome → ℕ → List (List ℕ) → List (List ℕ)
    → Type 0
HandSequence carry [] [] base old last = last ≡ old
HandSequence carry [] (o ∷ os) base old last = ⊥
HandSequence carry (p ∷ ps) [] base old last = ⊥
HandSequence carry (p ∷ ps) (o ∷ os) base old last =
    PatchThen carry p o p.block (hand old base p.block)
    (λ changed. HandSequence carry ps os base (put_back old base p.block changed) last)
