-- A run: patches applied one after the other, each to the sectors that the earlier ones leave.
use Rattle.std.specs.Prelude.{◌≡◌, ℕ, Bool, List, [], ◌∷◌}
use Rattle.cd_script.specs.PatchForm.{Patch}
use Rattle.cd_patch.specs.Deciding.{outcome}
use Rattle.cd_patch.specs.Effect.{Effect}
use Rattle.cd_patch.specs.declared.outcome.Outcome.{Outcome}

-- one step of a run: the first patch has this outcome, and the others continue from the sectors
-- that it leaves
pub record PatchThen (carry : Bool) (p : Patch) (o : Outcome) (base : ℕ) (old : List (List ℕ))
    (HoldsInvariant : List (List ℕ) → Type 0) : Type 0 where
  pub decided : o ≡ outcome carry old base p
  pub next : List (List ℕ)
  pub effect : Effect carry base p old next
  pub others : HoldsInvariant next

-- the patches, with damage carried or not, have these outcomes, and turn the sectors `old`, which
-- start at block `base`, into `last`
abbrev pub PatchSequence : Bool → List Patch → List Outcome → ℕ → List (List ℕ) → List (List ℕ)
    → Type 0
PatchSequence carry [] [] base old last = last ≡ old
PatchSequence carry [] (o ∷ os) base old last = ⊥
PatchSequence carry (p ∷ ps) [] base old last = ⊥
PatchSequence carry (p ∷ ps) (o ∷ os) base old last =
    PatchThen carry p o base old (λ next. PatchSequence carry ps os base next last)
