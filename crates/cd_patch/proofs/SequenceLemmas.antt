-- Sequences of patches: their lengths, how they are joined and cut, which sectors they leave
-- unchanged, and that there is only one result.
use Rattle.std.proofs.Common.{◌≡◌, ℕ, suc, ◌+◌, ◌-◌, ◌<◌, ◌≤◌, ◌⊎◌, inl, inr, Bool, List, [], ◌∷◌, ◌++◌, length, take, drop, Some, refl, sym, ap, subst, ◌∙◌, arith}
use Rattle.std.specs.List.{All}
use Rattle.std.proofs.lemmas.List.{take-append-drop, take_at}
use Rattle.std.proofs.lemmas.List.Elements.{All-head, All-tail}
use Rattle.cd_script.specs.PatchForm.{Patch}
use Rattle.cd_patch.specs.Blocks.{blocks_met, sector_at}
use Rattle.cd_sector.specs.Consistent.{header_of}
use Rattle.cd_patch.specs.Deciding.{outcome}
use Rattle.cd_patch.specs.EditMeaning.{keeps_defect, new_header}
use Rattle.cd_patch.specs.Effect.{EditResult, Effect, EffectOf, IsApplied, patched_user, user_part}
use Rattle.cd_patch.specs.Sequence.{PatchSequence}
use Rattle.cd_patch.specs.declared.outcome.Outcome.{Outcome}
use Rattle.cd_patch.proofs.general.Elements.{cases_Option}
use Rattle.cd_patch.proofs.FrameLemmas.{Effect-length, EffectOf-refused, by_effect, meets-cases, outcome-same, patched_user-same}
use Rattle.cd_patch.proofs.BecomesLemmas.{Becomes-unique}
use Rattle.cd_patch.proofs.SectorAtLemmas.{same_front, same_sectors, sector_at-none, sector_at-other}

-- ---- lengths

pub PatchSequence-lengths : (carry : Bool) (ps : List Patch) (os : List Outcome) (base : ℕ)
    (old last : List (List ℕ)) → PatchSequence carry ps os base old last → length os ≡ length ps
PatchSequence-lengths carry [] [] base old last h = refl
PatchSequence-lengths carry [] (o ∷ os) base old last h = elim h [ ]
PatchSequence-lengths carry (p ∷ ps) [] base old last h = elim h [ ]
PatchSequence-lengths carry (p ∷ ps) (o ∷ os) base old last h =
    ap (λ n. suc n) (PatchSequence-lengths carry ps os base h.next last h.others)

pub PatchSequence-count : (carry : Bool) (ps : List Patch) (os : List Outcome) (base : ℕ)
    (old last : List (List ℕ)) → PatchSequence carry ps os base old last → length last ≡ length old
PatchSequence-count carry [] [] base old last h = ap length h
PatchSequence-count carry [] (o ∷ os) base old last h = elim h [ ]
PatchSequence-count carry (p ∷ ps) [] base old last h = elim h [ ]
PatchSequence-count carry (p ∷ ps) (o ∷ os) base old last h =
    PatchSequence-count carry ps os base h.next last h.others
    ∙ Effect-length carry base p old h.next h.effect

-- ---- one run after another

pub PatchSequence-append : (carry : Bool) (ps ps' : List Patch) (os os' : List Outcome) (base : ℕ)
    (old middle last : List (List ℕ)) → PatchSequence carry ps os base old middle
    → PatchSequence carry ps' os' base middle last
    → PatchSequence carry (ps ++ ps') (os ++ os') base old last
PatchSequence-append carry [] ps' [] os' base old middle last h k =
    subst (λ m. PatchSequence carry ps' os' base m last) h k
PatchSequence-append carry [] ps' (o ∷ os) os' base old middle last h k = elim h [ ]
PatchSequence-append carry (p ∷ ps) ps' [] os' base old middle last h k = elim h [ ]
PatchSequence-append carry (p ∷ ps) ps' (o ∷ os) os' base old middle last h k = record {
  decided = h.decided;
  next = h.next;
  effect = h.effect;
  others = PatchSequence-append carry ps ps' os os' base h.next middle last h.others k;
}

pub PatchSequence-split : (carry : Bool) (ps ps' : List Patch) (os : List Outcome) (base : ℕ)
    (old last : List (List ℕ)) → PatchSequence carry (ps ++ ps') os base old last
    → (front : List Outcome) × (back : List Outcome) × (middle : List (List ℕ))
    × (os ≡ front ++ back) × PatchSequence carry ps front base old middle
    × PatchSequence carry ps' back base middle last
PatchSequence-split carry [] ps' os base old last h = ([], os, old, refl, refl, h)
PatchSequence-split carry (p ∷ ps) ps' [] base old last h = elim h [ ]
PatchSequence-split carry (p ∷ ps) ps' (o ∷ os) base old last h =
    let r = PatchSequence-split carry ps ps' os base h.next last h.others in
    let first : PatchSequence carry (p ∷ ps) (o ∷ r.0) base old r.2 = record {
      decided = h.decided;
      next = h.next;
      effect = h.effect;
      others = r.4;
    } in
    (o ∷ r.0, r.1, r.2, ap (λ l. o ∷ l) r.3, first, r.5)

-- ---- the sectors that patches leave unchanged

pub Effect-keeps : (carry : Bool) (base : ℕ) (p : Patch) (old new : List (List ℕ))
    → Effect carry base p old new → (block : ℕ)
    → (block < p.block) ⊎ (p.block + blocks_met p ≤ block)
    → sector_at new base block ≡ sector_at old base block
Effect-keeps carry base p old new h block side =
    by_effect carry base p old new (λ o. sector_at new base block ≡ sector_at old base block)
    (λ applied. applied.others block side) (λ o none e. ap (λ l. sector_at l base block) e)
    (outcome carry old base p) h

pub PatchSequence-keeps : (carry : Bool) (ps : List Patch) (os : List Outcome) (base bound : ℕ)
    (old last : List (List ℕ)) → All (λ p. bound ≤ p.block) ps → PatchSequence carry ps os base old last
    → (block : ℕ) → block < bound → sector_at last base block ≡ sector_at old base block
PatchSequence-keeps carry [] [] base bound old last from h block below =
    ap (λ l. sector_at l base block) h
PatchSequence-keeps carry [] (o ∷ os) base bound old last from h block below = elim h [ ]
PatchSequence-keeps carry (p ∷ ps) [] base bound old last from h block below = elim h [ ]
PatchSequence-keeps carry (p ∷ ps) (o ∷ os) base bound old last from h block below =
    let here : bound ≤ p.block = All-head (λ (q : Patch). bound ≤ q.block) p ps from in
    PatchSequence-keeps carry ps os base bound h.next last
    (All-tail (λ (q : Patch). bound ≤ q.block) p ps from) h.others block below
    ∙ Effect-keeps carry base p old h.next h.effect block (inl (omega arith))

pub PatchSequence-front : (carry : Bool) (ps : List Patch) (os : List Outcome) (base : ℕ)
    (front rest last : List (List ℕ)) → All (λ p. base + length front ≤ p.block) ps
    → PatchSequence carry ps os base (front ++ rest) last
    → (rest' : List (List ℕ)) × (last ≡ front ++ rest')
PatchSequence-front carry ps os base front rest last from h =
    let n = length front in
    let same : take n last ≡ take n (front ++ rest) =
    same_front (front ++ rest) last base n
    (PatchSequence-keeps carry ps os base (base + n) (front ++ rest) last from h) in (
      drop n last,
      sym (take-append-drop n last)
          ∙ ap (λ l. l ++ drop n last) (same ∙ take_at front rest n refl),
    )

-- ---- equal sectors stay equal

pub IsApplied-at : (carry : Bool) (base : ℕ) (p : Patch) (old new : List (List ℕ))
    → IsApplied carry base p old new → (block : ℕ) (before after : List ℕ) → p.block ≤ block
    → block < p.block + blocks_met p
    → sector_at old base block ≡ Some before → sector_at new base block ≡ Some after
    → EditResult carry p.edit before (user_part (patched_user old base p) (block - p.block)) after
IsApplied-at carry base p old new h block before after from below is was =
    let e : p.block + (block - p.block) ≡ block = omega arith in
    h.met (block - p.block) before after (omega arith) (ap (sector_at old base) e ∙ is)
    (ap (sector_at new base) e ∙ was)

Applied-agree : (carry : Bool) (bound base : ℕ) (p : Patch) (old old' new new' : List (List ℕ))
    → p.block + blocks_met p ≤ bound
    → ((block : ℕ) → block < bound → sector_at old base block ≡ sector_at old' base block)
    → IsApplied carry base p old new → IsApplied carry base p old' new'
    → (block : ℕ) → block < bound → sector_at new base block ≡ sector_at new' base block
Applied-agree carry bound base p old old' new new' room same h h' block below =
    elim (meets-cases p block) [
      | inr other ↦
          h.others block other.1 ∙ same block below ∙ sym (h'.others block other.1)
      | inl met ↦ elim (cases_Option (sector_at old base block)) [
        | inl none ↦
            sector_at-none old new base block h.count none
            ∙ sym (sector_at-none old' new' base block h'.count (sym (same block below) ∙ none))
        | inr some ↦ remade met.1 met.2 some.0 some.1
      ]
    ]
  where
    remade : p.block ≤ block → block < p.block + blocks_met p → (before : List ℕ)
        → sector_at old base block ≡ Some before
        → sector_at new base block ≡ sector_at new' base block
    remade from met before is =
        let is' = sym (same block below) ∙ is in
        let after = sector_at-other old new base block before h.count is in
        let after' = sector_at-other old' new' base block before h'.count is' in
        let made = IsApplied-at carry base p old new h block before after.0 from met is after.1 in
        let made' =
        IsApplied-at carry base p old' new' h' block before after'.0 from met is' after'.1 in
        let users : patched_user old base p ≡ patched_user old' base p =
        patched_user-same old old' base base p (λ b low high. same b (omega arith)) in
        let equal : after.0 ≡ after'.0 =
        Becomes-unique (keeps_defect carry p.edit) before (new_header p.edit (header_of before))
        (user_part (patched_user old' base p) (block - p.block)) after.0 after'.0
        (subst (λ user. EditResult carry p.edit before
        (user_part user (block - p.block)) after.0) users made) made' in
        after.1 ∙ ap (λ s. Some s) equal ∙ sym after'.1

-- if the sectors below a block are equal, a patch whose blocks lie there leaves them equal
pub Effects-agree : (carry : Bool) (bound base : ℕ) (p : Patch) (old old' new new' : List (List ℕ))
    → p.block + blocks_met p ≤ bound
    → ((block : ℕ) → block < bound → sector_at old base block ≡ sector_at old' base block)
    → Effect carry base p old new → Effect carry base p old' new'
    → (block : ℕ) → block < bound → sector_at new base block ≡ sector_at new' base block
Effects-agree carry bound base p old old' new new' room same h h' block below =
    let e : outcome carry old base p ≡ outcome carry old' base p =
    outcome-same carry old old' base base p (λ b low high. same b (omega arith)) in
    by_effect carry base p old new
    (λ o. EffectOf carry o base p old' new' → sector_at new base block ≡ sector_at new' base block)
    (λ one other.
    Applied-agree carry bound base p old old' new new' room same one other block below)
    (λ o none stays other.
    ap (λ l. sector_at l base block) stays ∙ same block below
    ∙ ap (λ l. sector_at l base block)
    (sym ((EffectOf-refused carry o base p old' new' none).0 other)))
    (outcome carry old base p) h (subst (λ o. EffectOf carry o base p old' new') (sym e) h')

pub Effect-determined : (carry : Bool) (base : ℕ) (p : Patch) (old new new' : List (List ℕ))
    → Effect carry base p old new → Effect carry base p old new' → new ≡ new'
Effect-determined carry base p old new new' h h' =
    same_sectors new' new base
    (λ block. Effects-agree carry (p.block + blocks_met p + (block + 1)) base p old old new new'
    (omega arith) (λ b below. refl) h h' block (omega arith))

pub PatchSequence-determined : (carry : Bool) (ps : List Patch) (os os' : List Outcome) (base : ℕ)
    (old last last' : List (List ℕ)) → PatchSequence carry ps os base old last
    → PatchSequence carry ps os' base old last'
    → (os ≡ os') × (last ≡ last')
PatchSequence-determined carry [] [] [] base old last last' h h' = (refl, h ∙ sym h')
PatchSequence-determined carry [] [] (o ∷ os') base old last last' h h' = elim h' [ ]
PatchSequence-determined carry [] (o ∷ os) os' base old last last' h h' = elim h [ ]
PatchSequence-determined carry (p ∷ ps) [] os' base old last last' h h' = elim h [ ]
PatchSequence-determined carry (p ∷ ps) (o ∷ os) [] base old last last' h h' = elim h' [ ]
PatchSequence-determined carry (p ∷ ps) (o ∷ os) (o' ∷ os') base old last last' h h' =
    let next = Effect-determined carry base p old h.next h'.next h.effect h'.effect in
    let rest =
    PatchSequence-determined carry ps os os' base h.next last last' h.others
    (subst (λ l. PatchSequence carry ps os' base l last') (sym next) h'.others) in
    (ap (λ x. x ∷ os) (h.decided ∙ sym h'.decided) ∙ ap (λ l. o' ∷ l) rest.0, rest.1)
