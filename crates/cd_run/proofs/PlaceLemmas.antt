-- The steps of a run, in terms of the places of its hand.
use Rattle.std.proofs.Common.{◌≡◌, ℕ, zero, suc, ◌+◌, ◌<◌, ◌≤◌, ◌⊎◌, inl, inr, Bool, false, List, [], ◌∷◌, ◌++◌, length, take, drop, None, Some, refl, sym, ap, ◌∙◌, subst, arith}
use Rattle.std.proofs.lemmas.List.{nil_from_length}
use Rattle.std.specs.Prelude.{All, cond}
use Rattle.std.specs.List.{slice_index_or}
use Rattle.std.proofs.Math.ListN.{length-take}
use Rattle.cd_script.specs.Patch.{IsPatch}
use Rattle.cd_script.specs.PatchForm.{Patch}
use Rattle.cd_sector.specs.declared.sector.TheConstants.{SECTOR_SIZE}
use Rattle.cd_patch.specs.Deciding.{outcome}
use Rattle.cd_patch.specs.Effect.{Effect, EffectOf}
use Rattle.cd_patch.specs.Outcome.{is_applied}
use Rattle.cd_patch.specs.declared.outcome.Outcome.{Outcome}
use Rattle.cd_patch.specs.declared.outcome.Outcome.TheVariants.{NoBlock}
use Rattle.cd_patch.proofs.FrameLemmas.{Effect-missing, outcome-missing}
use Rattle.cd_run.specs.Running.{Reached, closed_at, tail_at}
use Rattle.cd_run.specs.Steps.{MayDecide}
use Rattle.cd_run.proofs.RunningLemmas.{Decidable, Reached-decided, Reached-sent, never_some}

-- ---- the same for the places of a state

-- the first place, if a sector is in hand
pub first_place : (places : List (List ℕ)) (held : ℕ) → 0 < held → held ≤ length places
    → take held places ≡ slice_index_or places 0 [] ∷ drop 1 (take held places)
first_place [] held some within = absurd (omega arith)
first_place (x ∷ xs) zero some within = absurd (omega arith)
first_place (x ∷ xs) (suc held) some within = refl

-- the size of the first place
pub first_sized : (places : List (List ℕ)) (d : List ℕ) → 0 < length places
    → length (slice_index_or places 0 d) ≡ SECTOR_SIZE
    → length (slice_index_or places 0 []) ≡ SECTOR_SIZE
first_sized [] d some size = absurd (omega arith)
first_sized (x ∷ xs) d some size = size

-- the first place is the same with any other default
pub first_is : (places : List (List ℕ)) (d x : List ℕ) → 0 < length places
    → x ≡ slice_index_or places 0 d → x ≡ slice_index_or places 0 []
first_is [] d x some is = absurd (omega arith)
first_is (y ∷ ys) d x some is = is

-- the place after the sectors in hand exists if it has a sector
pub place_within : (places : List (List ℕ)) (held : ℕ)
    → length (slice_index_or places held []) ≡ SECTOR_SIZE → held < length places
place_within [] zero size = absurd (omega (arith, size))
place_within [] (suc held) size = absurd (omega (arith, size))
place_within (x ∷ xs) zero size = omega arith
place_within (x ∷ xs) (suc held) size = omega (arith, place_within xs held size)

-- one more sector
pub one_place_more : (places : List (List ℕ)) (held : ℕ)
    → length (slice_index_or places held []) ≡ SECTOR_SIZE
    → take (held + 1) places ≡ take held places ++ slice_index_or places held [] ∷ []
one_place_more [] held size = absurd (omega (arith, place_within [] held size))
one_place_more (x ∷ xs) zero size = refl
one_place_more (x ∷ xs) (suc held) size =
    let e : suc held + 1 ≡ suc (held + 1) = omega arith in
    rw e (ap (λ l. x ∷ l) (one_place_more xs held size))

module _ {carry : Bool} {taken left : List Patch} {base : ℕ} {seen done : List (List ℕ)}
    {outcomes : List Outcome} {block sectors applied : ℕ} (places places' : List (List ℕ))
    (held held' tail : ℕ) (one : held' + 1 ≡ held) (within : held ≤ length places)
    (moves : take held' places' ≡ drop 1 (take held places))
    (size : length (slice_index_or places 0 []) ≡ SECTOR_SIZE)
    (ahead : All (λ p. block < p.block) left) where
  pub HasReached-sent : (stage : ℕ) → stage ≤ 1
      → (0 < stage → slice_index_or places' held' [] ≡ slice_index_or places held [])
      → Reached carry taken left base seen done (take held places) outcomes block sectors applied
      (tail_at stage (take tail (slice_index_or places held []))) (closed_at stage)
      → Reached carry taken left base seen (done ++ slice_index_or places 0 [] ∷ [])
      (take held' places') outcomes (block + 1) sectors applied
      (tail_at stage (take tail (slice_index_or places' held' []))) (closed_at stage)
  HasReached-sent zero low same g =
      rw moves (Reached-sent (rw (first_place places held (omega arith) within) at g) size ahead)
  HasReached-sent (suc zero) low same g =
      rw (moves, same (omega arith))
      (Reached-sent (rw (first_place places held (omega arith) within) at g) size ahead)
  HasReached-sent (suc (suc stage)) low same g = absurd (omega arith)

-- if no tail is in hand, the image has not ended
pub none_open : (stage : ℕ) (bytes : List ℕ) → tail_at stage bytes ≡ None → stage ≡ 0
none_open zero bytes none = refl
none_open (suc stage) bytes none = never_some (Some bytes) none refl

pub tail_none : (stage : ℕ) (bytes : List ℕ) → stage ≡ 0 → tail_at stage bytes ≡ None
tail_none zero bytes is = refl
tail_none (suc stage) bytes is = absurd (omega arith)

-- until the tail was sent, the run is not closed
pub unclosed_at : (stage : ℕ) → stage ≤ 1 → closed_at stage ≡ false
unclosed_at zero low = refl
unclosed_at (suc zero) low = refl
unclosed_at (suc (suc stage)) low = absurd (omega arith)

-- the tail was moved together with the sectors before it
pub tail_moved : (places places' : List (List ℕ)) (held held' tail stage : ℕ)
    → (0 < stage → slice_index_or places' held' [] ≡ slice_index_or places held [])
    → tail_at stage (take tail (slice_index_or places' held' []))
    ≡ tail_at stage (take tail (slice_index_or places held []))
tail_moved places places' held held' tail zero same = refl
tail_moved places places' held held' tail (suc stage) same =
    ap (λ bytes. Some (take tail bytes)) (same (omega arith))

-- a patch without a sector in hand
pub decided_missing : (carry : Bool) (p : Patch) (places : List (List ℕ)) (held : ℕ) → held ≡ 0
    → outcome carry (take held places) p.block p ≡ NoBlock p.block
decided_missing carry p places held none =
    rw none (outcome-missing carry [] p.block p (inr (omega arith)))

-- why a patch can be decided, in terms of lists
pub decidable : (p : Patch) (places : List (List ℕ)) (held block sectors stage : ℕ) (bytes : List ℕ)
    → held ≤ length places → MayDecide p held block sectors stage
    → Decidable p (take held places) block sectors (tail_at stage bytes) (closed_at stage)
decidable p places held block sectors zero bytes within (MayDecide.at_front first some low reach) =
    Decidable.at_front first (omega (arith, length-take held places)) refl (elim reach [
      | inl all ↦ inl (omega (arith, length-take held places))
      | inr ended ↦ absurd (omega arith)
    ])
decidable p places held block sectors (suc zero) bytes within
    (MayDecide.at_front first some low reach) =
    Decidable.at_front first (omega (arith, length-take held places)) refl (inr refl)
decidable p places held block sectors (suc (suc stage)) bytes within
    (MayDecide.at_front first some low reach) = absurd (omega arith)
decidable p places held block sectors zero bytes within (MayDecide.under_base under none unread) =
    Decidable.under_base under none refl refl
decidable p places held block sectors (suc stage) bytes within (MayDecide.under_base under none unread) =
    absurd (omega arith)
decidable p places held block sectors zero bytes within (MayDecide.past_tail gone from) =
    absurd (omega arith)
decidable p places held block sectors (suc zero) bytes within (MayDecide.past_tail gone from) =
    absurd (omega arith)
decidable p places held block sectors (suc (suc stage)) bytes within (MayDecide.past_tail gone from) =
    Decidable.past_tail refl from

-- a patch that is decided by its own block is decided by the front block
record AtFront (carry : Bool) (p : Patch) (o : Outcome) (block : ℕ)
    (window window' : List (List ℕ)) : Type 0 where
  decided : o ≡ outcome carry window block p
  effect : Effect carry block p window window'

no_window : (carry : Bool) (p : Patch) (o : Outcome) (block : ℕ) (window window' : List (List ℕ))
    → o ≡ outcome carry window p.block p → Effect carry p.block p window window' → window ≡ []
    → (p.block < block) ⊎ (block ≤ p.block) → AtFront carry p o block window window'
no_window carry p o block window window' is makes none side =
    let size : length window ≡ 0 = ap length none in
    let here : (p.block < p.block) ⊎ (p.block + length window ≤ p.block) = inr (omega arith) in
    let there : (p.block < block) ⊎ (block + length window ≤ p.block) =
    elim side [ inl under ↦ inl under | inr from ↦ inr (omega arith) ] in
    let same : window' ≡ window =
    subst (λ u. EffectOf carry u p.block p window window')
    (outcome-missing carry window p.block p here) makes in
    record {
      decided =
          is ∙ outcome-missing carry window p.block p here
          ∙ sym (outcome-missing carry window block p there);
      effect =
          subst (Effect carry block p window) (sym same)
          (Effect-missing carry window block p there);
    }

module _ {carry : Bool} {taken : List Patch} {p : Patch} {left : List Patch} {base : ℕ}
    {seen done : List (List ℕ)} {outcomes : List Outcome} {block sectors applied : ℕ}
    (places places' : List (List ℕ)) (held stage : ℕ) (bytes : List ℕ) (o : Outcome)
    (within : held ≤ length places)
    (is : o ≡ outcome carry (take held places) p.block p)
    (makes : Effect carry p.block p (take held places) (take held places'))
    (patch : IsPatch p) (may : MayDecide p held block sectors stage)
    (g : Reached carry taken (p ∷ left) base seen done (take held places) outcomes block sectors
    applied (tail_at stage bytes) (closed_at stage)) where
  at_front_block : Decidable p (take held places) block sectors (tail_at stage bytes)
      (closed_at stage) → AtFront carry p o block (take held places) (take held places')
  at_front_block (Decidable.at_front first some unclosed reach) = record {
    decided = subst (λ b. o ≡ outcome carry (take held places) b p) first is;
    effect = subst (λ b. Effect carry b p (take held places) (take held places')) first makes;
  }
  at_front_block (Decidable.under_base under none unended unclosed) =
      no_window carry p o block (take held places) (take held places') is makes
      (nil_from_length (take held places) (omega (arith, g.counts.held, g.counts.count))) (inl under)
  at_front_block (Decidable.past_tail gone from) =
      no_window carry p o block (take held places) (take held places') is makes
      (g.closes gone).0 (inr from)

  pub HasReached-decided : Reached carry (taken ++ p ∷ []) left base seen done (take held places')
      (outcomes ++ o ∷ []) block sectors (applied + cond (is_applied o) 1 0) (tail_at stage bytes)
      (closed_at stage)
  HasReached-decided =
      let may = decidable p places held block sectors stage bytes within may in
      let front = at_front_block may in
      Reached-decided (take held places') o g front.decided front.effect patch may
