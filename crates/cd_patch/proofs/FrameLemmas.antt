-- A patch reads and changes only the blocks that it meets, so the same is true on a part of the
-- sectors that has them.
use Rattle.std.proofs.Common.{◌≡◌, ◌↔◌, ℕ, zero, suc, ◌+◌, ◌<◌, ◌≤◌, ◌⊎◌, inl, inr, Bool, true, false, List, [], ◌++◌, length, refl, sym, ap, ap₂, subst, ◌∙◌, arith, add-one}
use Rattle.std.proofs.lemmas.Bool.{and_from, and_left, and_right, cases_lt, le-leb, le-ltb, lt-leb, lt-ltb}
use Rattle.std.proofs.lemmas.List.{length-append}
use Rattle.cd_script.specs.PatchForm.{Patch}
use Rattle.cd_delta.specs.Writing.{with_range}
use Rattle.cd_patch.specs.Blocks.{blocks_met, sector_at}
use Rattle.cd_patch.specs.BySector.{meets}
use Rattle.cd_patch.specs.EditMeaning.{needs_consistent, new_bytes}
use Rattle.cd_patch.specs.Deciding.{either_refusal, first_refusal, joined_user, outcome, refusal_at, user_at, user_met}
use Rattle.cd_patch.specs.Effect.{EditResult, Effect, EffectOf, IsApplied, patched_user, user_part}
use Rattle.cd_patch.specs.Outcome.{is_applied}
use Rattle.cd_patch.specs.declared.outcome.Outcome.{Outcome}
use Rattle.cd_patch.specs.declared.outcome.Outcome.TheVariants.{Applied, Damaged, Differs, NoBlock, NotMode1}
use Rattle.cd_patch.proofs.SectorAtLemmas.{sector_at-back, sector_at-frame, sector_at-front, sector_at-missing}

-- ---- by the outcome of a patch

-- an accepted patch is applied, and any other has changed nothing
pub by_effect : (carry : Bool) (base : ℕ) (p : Patch) (old new : List (List ℕ))
    (Goal : Outcome → Type 0) → (IsApplied carry base p old new → Goal Applied)
    → ((o : Outcome) → is_applied o ≡ false → new ≡ old → Goal o)
    → (o : Outcome) → EffectOf carry o base p old new → Goal o
by_effect carry base p old new Goal applied other Applied h = applied h
by_effect carry base p old new Goal applied other (NoBlock b) h = other (NoBlock b) refl h
by_effect carry base p old new Goal applied other (NotMode1 b) h = other (NotMode1 b) refl h
by_effect carry base p old new Goal applied other (Damaged b) h = other (Damaged b) refl h
by_effect carry base p old new Goal applied other (Differs b offset) h =
    other (Differs b offset) refl h

pub EffectOf-refused : (carry : Bool) (o : Outcome) (base : ℕ) (p : Patch) (old new : List (List ℕ))
    → is_applied o ≡ false → EffectOf carry o base p old new ↔ (new ≡ old)
EffectOf-refused carry Applied base p old new none = absurd cc
EffectOf-refused carry (NoBlock b) base p old new none = (λ h. h, λ h. h)
EffectOf-refused carry (NotMode1 b) base p old new none = (λ h. h, λ h. h)
EffectOf-refused carry (Damaged b) base p old new none = (λ h. h, λ h. h)
EffectOf-refused carry (Differs b offset) base p old new none = (λ h. h, λ h. h)

-- the effect of a patch that has the same outcome on two lists of sectors
pub Effect-as : (carry : Bool) (base base' : ℕ) (p : Patch) (old new old' new' : List (List ℕ))
    → outcome carry old base p ≡ outcome carry old' base' p
    → (IsApplied carry base p old new → IsApplied carry base' p old' new')
    → (new ≡ old → new' ≡ old') → Effect carry base p old new → Effect carry base' p old' new'
Effect-as carry base base' p old new old' new' same applied stays h =
    subst (λ o. EffectOf carry o base' p old' new') same
    (by_effect carry base p old new (λ o. EffectOf carry o base' p old' new') applied
    (λ o none e. (EffectOf-refused carry o base' p old' new' none).1 (stays e))
    (outcome carry old base p) h)

pub Effect-length : (carry : Bool) (base : ℕ) (p : Patch) (old new : List (List ℕ))
    → Effect carry base p old new → length new ≡ length old
Effect-length carry base p old new h =
    by_effect carry base p old new (λ o. length new ≡ length old) (λ applied. applied.count)
    (λ o none e. ap length e) (outcome carry old base p) h

-- ---- the blocks that a patch meets

pub meets-cases : (p : Patch) (block : ℕ)
    → ((meets p block ≡ true) × (p.block ≤ block) × (block < p.block + blocks_met p))
    ⊎ ((meets p block ≡ false) × ((block < p.block) ⊎ (p.block + blocks_met p ≤ block)))
meets-cases p block = elim (cases_lt block p.block) [
  | inl below ↦ inr (and_left _ _ (lt-leb p.block block below), inl below)
  | inr from ↦ elim (cases_lt block (p.block + blocks_met p)) [
    | inl to ↦
        inl (
          and_from _ _ (le-leb p.block block from)
              (lt-ltb block (p.block + blocks_met p) to),
          from,
          to,
        )
    | inr after ↦ inr (and_right _ _ (le-ltb block (p.block + blocks_met p) after), inr after)
  ]
]

-- both lists have the same sectors at these blocks
abbrev pub HaveSame : List (List ℕ) → ℕ → List (List ℕ) → ℕ → ℕ → ℕ → Type 0
HaveSame sectors base others middle first count =
    (block : ℕ) → first ≤ block → block < first + count
    → sector_at sectors base block ≡ sector_at others middle block

first_refusal-same : (sectors others : List (List ℕ)) (base middle : ℕ) (must_be_consistent : Bool)
    (first count : ℕ) → HaveSame sectors base others middle first count
    → first_refusal sectors base must_be_consistent first count
    ≡ first_refusal others middle must_be_consistent first count
first_refusal-same sectors others base middle must_be_consistent first zero h = refl
first_refusal-same sectors others base middle must_be_consistent first (suc count) h =
    ap₂ either_refusal
    (ap (refusal_at must_be_consistent first) (h first (omega arith) (omega arith)))
    (first_refusal-same sectors others base middle must_be_consistent (first + 1) count
    (λ block low high. h block (omega arith) (omega arith)))

joined_user-same : (sectors others : List (List ℕ)) (base middle first count : ℕ)
    → HaveSame sectors base others middle first count
    → joined_user sectors base first count ≡ joined_user others middle first count
joined_user-same sectors others base middle first zero h = refl
joined_user-same sectors others base middle first (suc count) h =
    ap₂ (λ (user joined : List ℕ). user ++ joined)
    (ap user_at (h first (omega arith) (omega arith)))
    (joined_user-same sectors others base middle (first + 1) count
    (λ block low high. h block (omega arith) (omega arith)))

pub patched_user-same : (sectors others : List (List ℕ)) (base middle : ℕ) (p : Patch)
    → HaveSame sectors base others middle p.block (blocks_met p)
    → patched_user sectors base p ≡ patched_user others middle p
unfolding patched_user user_met
patched_user-same sectors others base middle p h =
    ap (λ user. with_range user p.offset (new_bytes p.edit))
    (joined_user-same sectors others base middle p.block (blocks_met p) h)

pub outcome-same : (carry : Bool) (sectors others : List (List ℕ)) (base middle : ℕ) (p : Patch)
    → HaveSame sectors base others middle p.block (blocks_met p)
    → outcome carry sectors base p ≡ outcome carry others middle p
unfolding outcome user_met
outcome-same carry sectors others base middle p h =
    rw (
      first_refusal-same sectors others base middle (needs_consistent carry p.edit) p.block
          (blocks_met p) h,
      joined_user-same sectors others base middle p.block (blocks_met p) h,
    ) refl

-- ---- a patch whose first block is missing

pub outcome-missing : (carry : Bool) (sectors : List (List ℕ)) (base : ℕ) (p : Patch)
    → (p.block < base) ⊎ (base + length sectors ≤ p.block)
    → outcome carry sectors base p ≡ NoBlock p.block
unfolding outcome blocks_met
outcome-missing carry sectors base p missing =
    rw (add-one, sector_at-missing sectors base p.block missing) refl

pub Effect-missing : (carry : Bool) (sectors : List (List ℕ)) (base : ℕ) (p : Patch)
    → (p.block < base) ⊎ (base + length sectors ≤ p.block) → Effect carry base p sectors sectors
Effect-missing carry sectors base p missing =
    subst (λ o. EffectOf carry o base p sectors sectors)
    (sym (outcome-missing carry sectors base p missing)) refl

-- an accepted patch on two lists of sectors
pub IsApplied-as : (carry : Bool) (base base' : ℕ) (p : Patch) (old new old' new' : List (List ℕ))
    → length new' ≡ length old' → HaveSame old base old' base' p.block (blocks_met p)
    → HaveSame new base new' base' p.block (blocks_met p)
    → ((block : ℕ) → (block < p.block) ⊎ (p.block + blocks_met p ≤ block)
    → sector_at new' base' block ≡ sector_at old' base' block)
    → IsApplied carry base p old new → IsApplied carry base' p old' new'
IsApplied-as carry base base' p old new old' new' count same same' others h = record {
  count = count;
  met = λ k before after inside is was.
      subst (λ user. EditResult carry p.edit before (user_part user k) after)
      (patched_user-same old old' base base' p same)
      (h.met k before after inside (same (p.block + k) (omega arith) (omega arith) ∙ is)
      (same' (p.block + k) (omega arith) (omega arith) ∙ was));
  others = others;
}

-- ---- a part of the sectors

HaveSame-frame : (front window more : List (List ℕ)) (base block first count : ℕ)
    → block ≡ base + length front → block ≤ first
    → (first + count ≤ block + length window) ⊎ (more ≡ [])
    → HaveSame window block (front ++ (window ++ more)) base first count
HaveSame-frame front window more base block first count e from room = λ b low high.
    sym (sector_at-frame front window more base block b e (omega arith)
    (elim room [ inl inside ↦ inl (omega arith) | inr none ↦ inr none ]))

pub outcome-frame : (carry : Bool) (front window more : List (List ℕ)) (base block : ℕ) (p : Patch)
    → block ≡ base + length front → block ≤ p.block
    → (p.block + blocks_met p ≤ block + length window) ⊎ (more ≡ [])
    → outcome carry (front ++ (window ++ more)) base p ≡ outcome carry window block p
outcome-frame carry front window more base block p e from room =
    sym (outcome-same carry window (front ++ (window ++ more)) block base p
    (HaveSame-frame front window more base block p.block (blocks_met p) e from room))

IsApplied-frame : (carry : Bool) (front window window' more : List (List ℕ)) (base block : ℕ)
    (p : Patch) → block ≡ base + length front → block ≤ p.block
    → (p.block + blocks_met p ≤ block + length window) ⊎ (more ≡ [])
    → IsApplied carry block p window window'
    → IsApplied carry base p (front ++ (window ++ more)) (front ++ (window' ++ more))
IsApplied-frame carry front window window' more base block p e from room h =
    IsApplied-as carry block base p window window' _ _
    (simp length-append (omega (arith, h.count)))
    (HaveSame-frame front window more base block p.block (blocks_met p) e from room)
    (HaveSame-frame front window' more base block p.block (blocks_met p) e from
    (elim room [ inl inside ↦ inl (omega (arith, h.count)) | inr none ↦ inr none ]))
    (λ b side. elim (cases_lt b block) [
      | inl below ↦
          sector_at-front front (window' ++ more) base b (omega arith)
          ∙ sym (sector_at-front front (window ++ more) base b (omega arith))
      | inr after ↦ elim (cases_lt b (block + length window)) [
        | inl inside ↦
            sector_at-frame front window' more base block b e after (inl (omega (arith, h.count)))
            ∙ h.others b side
            ∙ sym (sector_at-frame front window more base block b e after (inl inside))
        | inr past ↦
            sector_at-back front (window' ++ more) base block b e after
            ∙ sector_at-back window' more block (block + length window) b
            (ap (λ n. block + n) (sym h.count)) past
            ∙ sym (sector_at-back window more block (block + length window) b refl past)
            ∙ sym (sector_at-back front (window ++ more) base block b e after)
      ]
    ]) h

pub Effect-frame : (carry : Bool) (front window window' more : List (List ℕ)) (base block : ℕ)
    (p : Patch) → block ≡ base + length front → block ≤ p.block
    → (p.block + blocks_met p ≤ block + length window) ⊎ (more ≡ [])
    → Effect carry block p window window'
    → Effect carry base p (front ++ (window ++ more)) (front ++ (window' ++ more))
Effect-frame carry front window window' more base block p e from room =
    Effect-as carry block base p window window' _ _
    (sym (outcome-frame carry front window more base block p e from room))
    (IsApplied-frame carry front window window' more base block p e from room)
    (ap (λ l. front ++ (l ++ more)))
