-- Applying a patch to its hand and putting the hand back is applying it to the image.
use Rattle.std.proofs.Common.{◌≡◌, ℕ, ◌+◌, ◌-◌, ◌<◌, ◌≤◌, min, ◌⊎◌, inl, inr, Bool, List, [], ◌∷◌, ◌++◌, length, take, drop, None, sym, ap, subst, ◌∙◌, arith, append-nil}
use Rattle.std.specs.List.{All, slice_get}
use Rattle.std.proofs.lemmas.Bool.{cases_lt, cond-false, cond-true, le-ltb, lt-ltb}
use Rattle.std.proofs.lemmas.List.{drop-drop, drop_all, length-drop, length-take, length-take-le, nil_from_length, take-append-drop, take_all}
use Rattle.std.proofs.lemmas.List.Elements.{All-head, All-tail}
use Rattle.cd_script.specs.Patch.{IsPatch}
use Rattle.cd_script.specs.PatchForm.{Patch}
use Rattle.cd_patch.specs.Blocks.{block_limit, blocks_met, sector_at}
use Rattle.cd_patch.specs.Deciding.{outcome}
use Rattle.cd_patch.specs.Effect.{Effect, IsApplied}
use Rattle.cd_patch.specs.Hand.{HandSequence, hand, put_back}
use Rattle.cd_patch.specs.Sequence.{PatchSequence}
use Rattle.cd_patch.specs.declared.outcome.Outcome.{Outcome}
use Rattle.cd_patch.proofs.FrameLemmas.{Effect-as, Effect-frame, Effect-length, Effect-missing, HaveSame, IsApplied-as, outcome-missing, outcome-same}
use Rattle.cd_patch.proofs.RangeLemmas.{blocks_met-most}
use Rattle.cd_patch.proofs.SectorAtLemmas.{sector_at-after, sector_at-below, sector_at-from}
use Rattle.cd_patch.proofs.SequenceLemmas.{Effect-determined}
use Rattle.cd_patch.proofs.general.Elements.{slice_get-drop, slice_get-take}

-- ---- the sectors in hand

hand-below : (sectors : List (List ℕ)) (base block : ℕ) → block < base
    → hand sectors base block ≡ []
unfolding hand
hand-below sectors base block below = cond-true _ _ _ (lt-ltb block base below)

hand-from : (sectors : List (List ℕ)) (base block : ℕ) → base ≤ block
    → hand sectors base block ≡ take block_limit (drop (block - base) sectors)
unfolding hand
hand-from sectors base block from = cond-false _ _ _ (le-ltb block base from)

length-hand : (sectors : List (List ℕ)) (base block : ℕ) → base ≤ block
    → length (hand sectors base block) ≡ min block_limit (length sectors - (block - base))
length-hand sectors base block from =
    ap length (hand-from sectors base block from)
    ∙ length-take block_limit (drop (block - base) sectors)
    ∙ ap (min block_limit) (length-drop (block - base) sectors)

hand-at : (sectors : List (List ℕ)) (base first block : ℕ) → base ≤ first → first ≤ block
    → block < first + block_limit
    → sector_at (hand sectors base first) first block ≡ sector_at sectors base block
hand-at sectors base first block from low high =
    let n = first - base in
    let place : n + (block - first) ≡ block - base = omega arith in
    sector_at-from (hand sectors base first) first block low
    ∙ ap (λ l. slice_get l (block - first)) (hand-from sectors base first from)
    ∙ slice_get-take block_limit (drop n sectors) (block - first) (omega arith)
    ∙ slice_get-drop n sectors (block - first) ∙ ap (slice_get sectors) place
    ∙ sym (sector_at-from sectors base block (omega arith))

-- ---- a patch on its hand is a patch on the image

-- the hand has the sectors that the patch meets
hand-same : (p : Patch) (base : ℕ) (sectors : List (List ℕ)) → IsPatch p → base ≤ p.block
    → HaveSame sectors base (hand sectors base p.block) p.block p.block (blocks_met p)
hand-same p base sectors kept from = λ block low high.
    sym (hand-at sectors base p.block block from low (omega (arith, blocks_met-most p kept)))

pub outcome-hand : (carry : Bool) (p : Patch) (base : ℕ) (sectors : List (List ℕ)) → IsPatch p
    → outcome carry sectors base p ≡ outcome carry (hand sectors base p.block) p.block p
outcome-hand carry p base sectors kept = elim (cases_lt p.block base) [
  | inl below ↦
      outcome-missing carry sectors base p (inl below)
      ∙ sym (outcome-missing carry (hand sectors base p.block) p.block p
      (inr (omega (arith, ap length (hand-below sectors base p.block below)))))
  | inr from ↦
      outcome-same carry sectors (hand sectors base p.block) base p.block p
      (hand-same p base sectors kept from)
]

pub Effect-put_back : (carry : Bool) (p : Patch) (base : ℕ) (sectors changed : List (List ℕ))
    → IsPatch p → Effect carry p.block p (hand sectors base p.block) changed
    → Effect carry base p sectors (put_back sectors base p.block changed)
unfolding put_back
Effect-put_back carry p base sectors changed kept h = elim (cases_lt p.block base) [
  | inl below ↦
      missing (inl below) (hand-below sectors base p.block below)
      (cond-true _ _ _ (lt-ltb p.block base below))
  | inr from ↦
      let n = p.block - base in
      let window = hand sectors base p.block in
      let more = drop (n + block_limit) sectors in
      let is = hand-from sectors base p.block from in
      elim (cases_lt n (length sectors)) [
        | inr past ↦
            missing (inr (omega arith)) (is ∙ ap (take block_limit) (drop_all n sectors past))
            (rw (le-ltb p.block base from, drop_all (n + block_limit) sectors (omega arith), append-nil)
            (take_all n sectors past))
        | inl inside ↦
            let old : sectors ≡ take n sectors ++ (window ++ more) =
            sym (rw (
              is,
              ← drop-drop block_limit n sectors,
              take-append-drop block_limit (drop n sectors),
            ) (take-append-drop n sectors)) in
            subst (λ l. Effect carry base p l (put_back sectors base p.block changed)) (sym old)
            (subst (λ l. Effect carry base p (take n sectors ++ (window ++ more)) l)
            (sym (cond-false _ _ _ (le-ltb p.block base from)))
            (Effect-frame carry (take n sectors) window changed more base p.block p
            (omega (arith, length-take-le n sectors (omega arith))) (omega arith)
            (elim (cases_lt (length sectors) (n + block_limit)) [
              | inl short ↦ inr (drop_all (n + block_limit) sectors (omega arith))
              | inr long ↦
                  let size =
                  length-take-le block_limit (drop n sectors) (omega (arith, length-drop n sectors)) in
                  inl (omega (arith, ap length is, size, blocks_met-most p kept))
            ]) h))
      ]
]
  where
    -- the patch is refused, and no sector is in hand or put back
    missing : (p.block < base) ⊎ (base + length sectors ≤ p.block)
        → hand sectors base p.block ≡ [] → put_back sectors base p.block [] ≡ sectors
        → Effect carry base p sectors (put_back sectors base p.block changed)
    missing none empty stays =
        let size = Effect-length carry p.block p (hand sectors base p.block) changed h in
        let nothing : changed ≡ [] = nil_from_length changed (size ∙ ap length empty) in
        subst (λ l. Effect carry base p sectors l)
        (sym (ap (put_back sectors base p.block) nothing ∙ stays))
        (Effect-missing carry sectors base p none)

-- ---- a patch on the image is a patch on its hand

IsApplied-hand : (carry : Bool) (p : Patch) (base : ℕ) (old new : List (List ℕ)) → IsPatch p
    → base ≤ p.block → IsApplied carry base p old new
    → IsApplied carry p.block p (hand old base p.block) (hand new base p.block)
IsApplied-hand carry p base old new kept from h =
    let past : (sectors : List (List ℕ)) (block : ℕ) → p.block + block_limit ≤ block
    → sector_at (hand sectors base p.block) p.block block ≡ None =
    λ sectors block after.
    sector_at-after (hand sectors base p.block) p.block block
    (omega (arith, length-hand sectors base p.block from)) in
    IsApplied-as carry base p.block p old new (hand old base p.block) (hand new base p.block)
    (length-hand new base p.block from
    ∙ ap (λ n. min block_limit (n - (p.block - base))) h.count
    ∙ sym (length-hand old base p.block from))
    (hand-same p base old kept from) (hand-same p base new kept from)
    (λ block side. elim (cases_lt block p.block) [
      | inl below ↦
          sector_at-below (hand new base p.block) p.block block below
          ∙ sym (sector_at-below (hand old base p.block) p.block block below)
      | inr low ↦ elim (cases_lt block (p.block + block_limit)) [
        | inl high ↦
            hand-at new base p.block block from low high ∙ h.others block side
            ∙ sym (hand-at old base p.block block from low high)
        | inr after ↦ past new block after ∙ sym (past old block after)
      ]
    ]) h

Effect-hand : (carry : Bool) (p : Patch) (base : ℕ) (old new : List (List ℕ)) → IsPatch p
    → Effect carry base p old new
    → Effect carry p.block p (hand old base p.block) (hand new base p.block)
Effect-hand carry p base old new kept h = elim (cases_lt p.block base) [
  | inl below ↦
      let none = hand-below old base p.block below in
      subst (λ l. Effect carry p.block p (hand old base p.block) l)
      (none ∙ sym (hand-below new base p.block below))
      (Effect-missing carry (hand old base p.block) p.block p (inr (omega (arith, ap length none))))
  | inr from ↦
      Effect-as carry base p.block p old new _ _ (outcome-hand carry p base old kept)
      (IsApplied-hand carry p base old new kept from) (ap (λ l. hand l base p.block)) h
]

-- ---- runs

pub to_run : (carry : Bool) (ps : List Patch) (os : List Outcome) (base : ℕ) (old last : List (List ℕ))
    → All IsPatch ps → HandSequence carry ps os base old last
    → PatchSequence carry ps os base old last
to_run carry [] [] base old last kept h = h
to_run carry [] (o ∷ os) base old last kept h = elim h [ ]
to_run carry (p ∷ ps) [] base old last kept h = elim h [ ]
to_run carry (p ∷ ps) (o ∷ os) base old last kept h =
    let one = All-head IsPatch p ps kept in
    let next = put_back old base p.block h.next in
    record {
      decided = h.decided ∙ sym (outcome-hand carry p base old one);
      next = next;
      effect = Effect-put_back carry p base old h.next one h.effect;
      others = to_run carry ps os base next last (All-tail IsPatch p ps kept) h.others;
    }

pub from_run : (carry : Bool) (ps : List Patch) (os : List Outcome) (base : ℕ)
    (old last : List (List ℕ)) → All IsPatch ps → PatchSequence carry ps os base old last
    → HandSequence carry ps os base old last
from_run carry [] [] base old last kept h = h
from_run carry [] (o ∷ os) base old last kept h = elim h [ ]
from_run carry (p ∷ ps) [] base old last kept h = elim h [ ]
from_run carry (p ∷ ps) (o ∷ os) base old last kept h =
    let one = All-head IsPatch p ps kept in
    let changed = hand h.next base p.block in
    let effect = Effect-hand carry p base old h.next one h.effect in
    let same : h.next ≡ put_back old base p.block changed =
    Effect-determined carry base p old h.next (put_back old base p.block changed) h.effect
    (Effect-put_back carry p base old changed one effect) in
    record {
      decided = h.decided ∙ outcome-hand carry p base old one;
      next = changed;
      effect = effect;
      others =
          subst (λ l. HandSequence carry ps os base l last) same
          (from_run carry ps os base h.next last (All-tail IsPatch p ps kept) h.others);
    }
