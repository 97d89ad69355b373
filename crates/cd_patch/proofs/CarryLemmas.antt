-- If damage is carried, no patch is refused for damage; for sectors without damage, carrying makes
-- no difference.
use Rattle.std.proofs.Common.{◌≡◌, ℕ, zero, suc, ◌+◌, ◌<◌, Bool, true, false, List, Option, Some, None, refl, sym, ap₂, subst, ◌∙◌, arith}
use Rattle.std.specs.Prelude.{not, unwrap_or}
use Rattle.std.proofs.lemmas.Bool.{and_from, and_parts, and_right}
use Rattle.std.proofs.lemmas.Option.{same_Some}
use Rattle.cd_script.specs.PatchForm.{Patch}
use Rattle.cd_sector.specs.Consistent.{IsConsistent, header_of}
use Rattle.cd_patch.specs.Blocks.{blocks_met, sector_at}
use Rattle.cd_patch.specs.EditMeaning.{needs_consistent, keeps_old, keeps_defect, new_header}
use Rattle.cd_patch.specs.Deciding.{by_difference, either_refusal, first_refusal, outcome, refusal_at}
use Rattle.cd_patch.specs.Effect.{Becomes, Effect, EffectOf, IsApplied, patched_user, user_part}
use Rattle.cd_patch.specs.declared.outcome.Outcome.{Outcome}
use Rattle.cd_patch.specs.declared.outcome.Outcome.TheVariants.{Applied, Damaged}
use Rattle.cd_patch.proofs.DecidingLemmas.{is_refusal, accepted-there, first_of-none, first_refusal-is, unrefused}
use Rattle.cd_patch.proofs.BecomesLemmas.{Becomes-nothing, keeps-nothing}

needs-nothing : (p : Patch) → needs_consistent true p.edit ≡ false
needs-nothing p = and_right (keeps_old p.edit) (not true) refl

-- ---- no refusal for damage

undamaged : (must_be_consistent : Bool) (found : Option Outcome) (place : Option ℕ)
    (block other : ℕ) → must_be_consistent ≡ false → is_refusal must_be_consistent found ≡ true
    → unwrap_or found (by_difference block place) ≡ Damaged other → ⊥
undamaged must_be_consistent None None block other unasked is h = cc
undamaged must_be_consistent None (Some place) block other unasked is h = cc
undamaged must_be_consistent (Some r) place block other unasked is h =
    let asked : must_be_consistent ≡ true = rw h at is in cc

pub never-damaged : (base block : ℕ) (p : Patch) (ss : List (List ℕ))
    → outcome true ss base p ≡ Damaged block → ⊥
unfolding outcome
never-damaged base block p ss h =
    undamaged (needs_consistent true p.edit) _ _ p.block block (needs-nothing p)
    (first_refusal-is ss base (needs_consistent true p.edit) p.block (blocks_met p)) h

-- ---- if there is nothing to carry

refusal_at-loose : (must_be_consistent : Bool) (block : ℕ) (sector : Option (List ℕ))
    → refusal_at must_be_consistent block sector ≡ None → refusal_at false block sector ≡ None
refusal_at-loose must_be_consistent block None h = cc
refusal_at-loose must_be_consistent block (Some sector) h = grind arith

first_refusal-loose : (ss : List (List ℕ)) (base : ℕ) (must_be_consistent : Bool) (block count : ℕ)
    → first_refusal ss base must_be_consistent block count ≡ None → first_refusal ss base false block count ≡ None
first_refusal-loose ss base must_be_consistent block zero h = refl
first_refusal-loose ss base must_be_consistent block (suc count) h =
    let both =
    first_of-none (refusal_at must_be_consistent block (sector_at ss base block))
    (first_refusal ss base must_be_consistent (block + 1) count) h in
    ap₂ either_refusal (refusal_at-loose must_be_consistent block (sector_at ss base block) both.0)
    (first_refusal-loose ss base must_be_consistent (block + 1) count both.1)

module _ (base : ℕ) (p : Patch) (old : List (List ℕ))
    (accepted : outcome false old base p ≡ Applied) where
  accepted-carried : outcome true old base p ≡ Applied
  unfolding outcome
  accepted-carried =
      let before = unrefused false old base p accepted in
      rw (
        needs-nothing p,
        first_refusal-loose old base (needs_consistent false p.edit) p.block (blocks_met p) before,
      ) (rw before at accepted)

  -- a block that the patch meets has no defect, if the patch keeps defects
  sound : (k : ℕ) (before : List ℕ) → k < blocks_met p
      → sector_at old base (p.block + k) ≡ Some before → keeps_defect true p.edit ≡ true
      → IsConsistent before
  sound k before below is keeps =
      let asked =
      and_from (keeps_old p.edit) (not false)
      (and_parts (keeps_old p.edit) true keeps).0 refl in
      let met =
      accepted-there false old base p accepted (p.block + k) (omega arith) (omega arith) in
      subst IsConsistent (same_Some met.sector before (sym met.is ∙ is)) (met.sound asked)

  applied-carried : (new : List (List ℕ)) → IsApplied false base p old new
      → IsApplied true base p old new
  applied-carried new h = record {
    count = h.count;
    met = λ k before after below is was.
        Becomes-nothing (keeps_defect true p.edit) before (new_header p.edit (header_of before))
        (user_part (patched_user old base p) k) after (sound k before below is)
        (subst (λ b. Becomes b before (new_header p.edit (header_of before))
        (user_part (patched_user old base p) k) after) (keeps-nothing false p.edit refl)
        (h.met k before after below is was));
    others = h.others;
  }

pub nothing-to_carry : (base : ℕ) (p : Patch) (old new : List (List ℕ))
    → outcome false old base p ≡ Applied → Effect false base p old new
    → (outcome true old base p ≡ Applied) × Effect true base p old new
nothing-to_carry base p old new accepted effect =
    let carried = accepted-carried base p old accepted in (
      carried,
      subst (λ o. EffectOf true o base p old new) (sym carried)
          (applied-carried base p old accepted new
          (subst (λ o. EffectOf false o base p old new) accepted effect)),
    )
