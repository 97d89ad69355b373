-- Each patch has a result on any sectors, and so each list of patches has a run.
use Rattle.std.proofs.Common.{◌≡◌, ℕ, ◌+◌, ◌-◌, ◌<◌, ◌≤◌, ◌⊎◌, inl, inr, Bool, true, false, List, [], ◌∷◌, ◌++◌, length, get_or, take, drop, Option, Some, None, refl, sym, ap, subst, ◌∙◌, arith, lit<, lit≤}
use Rattle.std.specs.Prelude.{slice_range}
use Rattle.std.specs.List.{All, slice_get}
use Rattle.std.specs.Option.{IfSome}
use Rattle.std.proofs.Math.Seq.{drop-append_seam}
use Rattle.std.proofs.lemmas.List.{get_or-drop, length-append, length-drop, take_more}
use Rattle.std.proofs.lemmas.List.Elements.{All-cons, All-head, All-nil, All-tail}
use Rattle.std.proofs.lemmas.Option.{get_or_from_slice_get, same_Some, slice_get-get_or}
use Rattle.cd_code.specs.Field.{AreBytes}
use Rattle.cd_code.proofs.ByteLemmas.{AreBytes-append}
use Rattle.cd_script.specs.Patch.{IsPatch}
use Rattle.cd_script.specs.PatchForm.{Patch}
use Rattle.cd_sector.specs.Consistent.{header_of}
use Rattle.cd_sector.specs.Kind.{kind_of}
use Rattle.cd_sector.specs.declared.kinds.SectorKind.TheVariants.{Mode1}
use Rattle.cd_sector.specs.declared.sector.TheConstants.{USER_SIZE}
use Rattle.cd_sector.proofs.CarriedExistence.{carried_found}
use Rattle.cd_sector.proofs.DefectLemmas.{length-range}
use Rattle.cd_sector.proofs.ExistenceLemmas.{sector_found}
use Rattle.cd_sector.proofs.SectorLemmas.{mode1-parts}
use Rattle.cd_patch.specs.Blocks.{blocks_met, sector_at}
use Rattle.cd_patch.specs.EditMeaning.{EditMeaning, keeps_defect, meaning, new_header, with_address}
use Rattle.cd_patch.specs.Deciding.{outcome}
use Rattle.cd_patch.specs.Effect.{Becomes, EditResult, Effect, EffectOf, IsApplied, patched_user, user_part}
use Rattle.cd_patch.specs.BySector.{IsSector}
use Rattle.cd_patch.specs.Sequence.{PatchSequence}
use Rattle.cd_patch.specs.declared.outcome.Outcome.{Outcome}
use Rattle.cd_patch.specs.declared.outcome.Outcome.TheVariants.{Applied, Damaged, Differs, NoBlock, NotMode1}
use Rattle.cd_patch.proofs.DecidingLemmas.{AreThere, accepted-there}
use Rattle.cd_patch.proofs.FrameLemmas.{meets-cases}
use Rattle.cd_patch.proofs.general.Elements.{cases_Option, list_of_choices}
use Rattle.cd_patch.proofs.BySectorLemmas.{Effect-sectors}
use Rattle.cd_patch.proofs.MeaningLemmas.{AreBytes-address, AreBytes-all, IsAddressAlone}
use Rattle.cd_patch.proofs.MeaningLemmas.{patch-fits}
use Rattle.cd_patch.proofs.SectorAtLemmas.{sector_at-add, sector_at-from, sector_at-none, sector_at-other, sector_at-within}
use Rattle.cd_patch.proofs.UserLemmas.{AreBytes-range, AreBytes-user_part, IsSector-at}
use Rattle.cd_patch.proofs.UserLemmas.{length-user_part}

-- ---- one sector

header-mode1 : (sector : List ℕ) → IsSector sector → kind_of sector ≡ Mode1
    → slice_range sector 12 15 ++ 1 ∷ [] ≡ header_of sector
unfolding header_of
header-mode1 sector h mode =
    let is_one : get_or sector 15 0 ≡ 1 = (mode1-parts sector mode).1 in
    let last : get_or (drop 12 sector) 3 0 ≡ 1 = get_or-drop 12 sector 3 0 ∙ is_one in
    ap (λ b. take 3 (drop 12 sector) ++ b ∷ []) (sym last)
    ∙ sym (take_more (drop 12 sector) 3 0 (omega (arith, length-drop 12 sector, h.size)))

-- a header of Mode 1: three bytes, and the mode byte
record IsHeader (header : List ℕ) : Type 0 where
  address : List ℕ
  bytes : AreBytes address
  size : length address ≡ 3
  whole : address ++ 1 ∷ [] ≡ header

IsHeader-of : (sector : List ℕ) → IsSector sector → kind_of sector ≡ Mode1
    → IsHeader (header_of sector)
IsHeader-of sector h mode = record {
  address = slice_range sector 12 15;
  bytes = AreBytes-range sector 12 15 h.bytes;
  size = length-range sector 12 15 (lit≤ tt) (omega (arith, h.size));
  whole = header-mode1 sector h mode;
}

mode-after : (header : List ℕ) → IsHeader header → drop 3 header ≡ 1 ∷ []
mode-after header h =
    ap (drop 3) (sym h.whole) ∙ ap (λ n. drop n (h.address ++ 1 ∷ [])) (sym h.size)
    ∙ drop-append_seam h.address (1 ∷ [])

-- a header of Mode 1 with a new address is still a header of Mode 1
IsHeader-new : (m : EditMeaning) (address : Option (List ℕ)) (header : List ℕ)
    → IfSome address (IsAddressAlone m) → IsHeader header → IsHeader (with_address address header)
IsHeader-new m None header only h = h
IsHeader-new m (Some bcd) header only h = record {
  address = bcd;
  bytes = AreBytes-address bcd only.is_address;
  size = ap length only.is_address.are;
  whole = ap (λ rest. bcd ++ rest) (sym (mode-after header h));
}

-- there is a result, whether damage is carried or not
sector_made : (carried : Bool) (old header user : List ℕ) → IsSector old → IsHeader header
    → AreBytes user → length user ≡ USER_SIZE
    → (after : List ℕ) × Becomes carried old header user after
sector_made false old header user h k bytes size =
    let made = sector_found k.address user k.bytes k.size bytes size in (
      made.0,
      record {
        is_consistent = made.1.is_consistent;
        has_header = made.1.has_header ∙ k.whole;
        has_user = made.1.has_user;
      },
    )
sector_made true old header user h k bytes size =
    let four = length-append k.address (1 ∷ []) in
    carried_found old header user h.size h.bytes
    (subst AreBytes k.whole
    (AreBytes-append k.address (1 ∷ []) k.bytes
    (AreBytes-all (1 ∷ []) (All-cons (λ b. b < 256) 1 [] (lit< tt) (All-nil (λ b. b < 256))))))
    (omega (arith, ap length k.whole, k.size, four)) bytes size

-- ---- the sectors that result from an accepted patch

-- the sector of a block after an accepted patch: the result of the patch, or the old sector
abbrev Follows : Bool → ℕ → Patch → List (List ℕ) → ℕ → List ℕ → List ℕ → Type 0
Follows carry base p old block before after =
    ((p.block ≤ block) × (block < p.block + blocks_met p)
    × EditResult carry p.edit before (user_part (patched_user old base p) (block - p.block)) after)
    ⊎ (((block < p.block) ⊎ (p.block + blocks_met p ≤ block)) × (after ≡ before))

followed : (carry : Bool) (base : ℕ) (p : Patch) (old : List (List ℕ)) → IsPatch p
    → All IsSector old → AreThere carry old base p → (block : ℕ) (before : List ℕ)
    → sector_at old base block ≡ Some before
    → (after : List ℕ) × Follows carry base p old block before after
followed carry base p old kept each there block before is = elim (meets-cases p block) [
  | inl met ↦
      let t = there block met.1 met.2 in
      let m = meaning p.edit in
      let sector = IsSector-at old base block before each is in
      let mode : kind_of before ≡ Mode1 =
      ap kind_of (same_Some before t.sector (sym is ∙ t.is)) ∙ t.mode in
      let made =
      sector_made (keeps_defect carry p.edit) before (new_header p.edit (header_of before))
      (user_part (patched_user old base p) (block - p.block)) sector
      (IsHeader-new m m.address (header_of before) (patch-fits p kept).address
      (IsHeader-of before sector mode))
      (AreBytes-user_part carry old base p each there kept (block - p.block))
      (length-user_part carry old base p each there kept (block - p.block)
      (omega (arith, met.1, met.2))) in
      (made.0, inl (met.1, met.2, made.1))
  | inr other ↦ (before, inr (other.1, refl))
]

applied_to : (carry : Bool) (base : ℕ) (p : Patch) (old : List (List ℕ)) → IsPatch p
    → All IsSector old → AreThere carry old base p
    → (new : List (List ℕ)) × IsApplied carry base p old new
applied_to carry base p old kept each there =
    let all =
    list_of_choices (λ i. Follows carry base p old (base + i) (get_or old i [])) (length old)
    (λ i below. followed carry base p old kept each there (base + i) (get_or old i [])
    (sector_at-add old base i ∙ slice_get-get_or old i [] below)) in
    (all.0, is_applied_to all.0 all.1 all.2)
  where
    is_applied_to : (new : List (List ℕ)) → length new ≡ length old
        → ((i : ℕ) (after : List ℕ) → slice_get new i ≡ Some after
        → Follows carry base p old (base + i) (get_or old i []) after)
        → IsApplied carry base p old new
    is_applied_to new count follows =
        let at : (block : ℕ) (before after : List ℕ) → sector_at old base block ≡ Some before
        → sector_at new base block ≡ Some after → Follows carry base p old block before after =
        (λ block before after is was.
        let from = (sector_at-within new base block after was).0 in
        let e : base + (block - base) ≡ block = omega arith in
        let same : get_or old (block - base) [] ≡ before =
        get_or_from_slice_get old (block - base) before []
        (sym (sector_at-from old base block from) ∙ is) in
        subst (λ s. Follows carry base p old block s after) same
        (subst (λ b. Follows carry base p old b (get_or old (block - base) []) after) e
        (follows (block - base) after (sym (sector_at-from new base block from) ∙ was)))) in
        record {
          count = count;
          met = λ k before after inside is was.
              let e : p.block + k - p.block ≡ k = omega arith in
              elim (at (p.block + k) before after is was) [
                | inl made ↦
                    subst (λ n. EditResult carry p.edit before
                    (user_part (patched_user old base p) n) after) e made.2
                | inr other ↦ absurd (elim other.0 [ inl low ↦ omega arith | inr high ↦ omega arith ])
              ];
          others = λ block side. elim (cases_Option (sector_at new base block)) [
            | inl none ↦ none ∙ sym (sector_at-none new old base block (sym count) none)
            | inr some ↦
                let before = sector_at-other new old base block some.0 (sym count) some.1 in
                elim (at block before.0 some.0 before.1 some.1) [
                  | inl made ↦ absurd (elim side [ inl low ↦ omega arith | inr high ↦ omega arith ])
                  | inr other ↦ some.1 ∙ ap (λ s. Some s) other.1 ∙ sym before.1
                ]
          ];
        }

pub Effect-exists : (carry : Bool) (base : ℕ) (p : Patch) (old : List (List ℕ)) → IsPatch p
    → All IsSector old → (new : List (List ℕ)) × Effect carry base p old new
Effect-exists carry base p old kept each = by_outcome (outcome carry old base p) refl
  where
    by_outcome : (o : Outcome) → outcome carry old base p ≡ o
        → (new : List (List ℕ)) × EffectOf carry o base p old new
    by_outcome Applied e = applied_to carry base p old kept each (accepted-there carry old base p e)
    by_outcome (NoBlock b) e = (old, refl)
    by_outcome (NotMode1 b) e = (old, refl)
    by_outcome (Damaged b) e = (old, refl)
    by_outcome (Differs b offset) e = (old, refl)

pub run-exists : (carry : Bool) (ps : List Patch) (base : ℕ) (old : List (List ℕ)) → All IsPatch ps
    → All IsSector old
    → (os : List Outcome) × (last : List (List ℕ)) × PatchSequence carry ps os base old last
    × All IsSector last
run-exists carry [] base old kept each = ([], old, refl, each)
run-exists carry (p ∷ ps) base old kept each =
    let made = Effect-exists carry base p old (All-head IsPatch p ps kept) each in
    let rest =
    run-exists carry ps base made.0 (All-tail IsPatch p ps kept)
    (Effect-sectors carry base p old made.0 (All-head IsPatch p ps kept) each made.1) in (
      outcome carry old base p ∷ rest.0,
      rest.1,
      record { decided = refl; next = made.0; effect = made.1; others = rest.2 },
      rest.3,
    )
