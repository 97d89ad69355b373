-- The result of a run, block by block and byte by byte.
use Rattle.std.proofs.Common.{◌≡◌, ℕ, ◌+◌, ◌-◌, ◌<◌, ◌≤◌, inl, inr, true, false, ◌&&◌, ◌||◌, Bool, List, [], ◌∷◌, length, get_or, Some, refl, sym, ap, subst, ◌∙◌, arith}
use Rattle.std.specs.Prelude.{if◌then◌else◌, not}
use Rattle.std.specs.List.{All}
use Rattle.std.proofs.lemmas.Bool.{and_from, and_left, cases_Bool, not-false, not-true, or_cases, or_parts}
use Rattle.std.proofs.lemmas.List.{ext_get_or}
use Rattle.std.proofs.lemmas.List.Elements.{All-head, All-tail}
use Rattle.std.proofs.lemmas.Option.{same_Some, slice_get-get_or}
use Rattle.cd_script.specs.Patch.{IsPatch}
use Rattle.cd_script.specs.PatchForm.{Patch}
use Rattle.cd_sector.specs.Consistent.{IsConsistent, header_of, user_of}
use Rattle.cd_sector.specs.declared.sector.TheConstants.{USER_SIZE}
use Rattle.cd_sector.proofs.CarriedLemmas.{sector_by_defect}
use Rattle.cd_sector.proofs.SectorLemmas.{sector_unique}
use Rattle.cd_patch.specs.Blocks.{blocks_met, sector_at}
use Rattle.cd_patch.specs.EditMeaning.{keeps_defect, keeps_old, new_header}
use Rattle.cd_patch.specs.Deciding.{outcome}
use Rattle.cd_patch.specs.Effect.{Effect, IsApplied, patched_user, user_part}
use Rattle.cd_patch.specs.BySector.{IsSector, LeavesOthers, SameDamage, byte_by, byte_left, header_left, is_rebuilt, is_met, meets}
use Rattle.cd_patch.specs.Outcome.{is_applied}
use Rattle.cd_patch.specs.Sequence.{PatchSequence}
use Rattle.cd_patch.specs.declared.outcome.Outcome.{Outcome}
use Rattle.cd_patch.proofs.DecidingLemmas.{AreThere, accepted-there}
use Rattle.cd_patch.proofs.FrameLemmas.{Effect-length, by_effect, meets-cases}
use Rattle.cd_patch.proofs.general.Elements.{cases_Option}
use Rattle.cd_patch.proofs.BecomesLemmas.{Becomes-header, Becomes-sector, Becomes-user, EditResult-encoded, EditResult-carried, EditResult-consistent, keeps-nothing}
use Rattle.cd_patch.proofs.PartLemmas.{length-user}
use Rattle.cd_patch.proofs.SequenceLemmas.{IsApplied-at, PatchSequence-count}
use Rattle.cd_patch.proofs.SectorAtLemmas.{same_sectors, sector_at-add, sector_at-none, sector_at-other}
use Rattle.cd_patch.proofs.UserLemmas.{IsSector-at, byte_by-other, user_part-byte}

-- ---- one sector

-- the effect of patches on a sector, by whether it is touched and whether it is rebuilt: its new
-- header, and its new byte at each offset
record LeavesSector (carry touched rebuilt : Bool) (header : List ℕ → List ℕ) (byte : ℕ → ℕ → ℕ)
    (before after : List ℕ) : Type 0 where
  sector : IsSector before → IsSector after
  same : touched ≡ false → after ≡ before
  consistent : carry ≡ false → touched ≡ true → IsConsistent after
  again : rebuilt ≡ true → IsConsistent after
  carried : carry ≡ true → rebuilt ≡ false → SameDamage before after
  stays : IsConsistent before → IsConsistent after
  has_header : header_of after ≡ header (header_of before)
  user : (offset : ℕ) → offset < USER_SIZE
      → get_or (user_of after) offset 0 ≡ byte offset (get_or (user_of before) offset 0)

-- an unchanged sector
LeavesSector-none : (carry : Bool) (byte : ℕ → ℕ → ℕ) (before after : List ℕ)
    → ((offset b : ℕ) → byte offset b ≡ b) → after ≡ before
    → LeavesSector carry false false (λ h. h) byte before after
LeavesSector-none carry byte before after kept e =
    subst (LeavesSector carry false false (λ h. h) byte before) (sym e) (record {
      sector = λ h. h;
      same = λ none. refl;
      consistent = λ none touched. absurd cc;
      again = λ rebuilt. absurd cc;
      carried = λ carries none. record { sync = refl; defect = refl };
      stays = λ h. h;
      has_header = refl;
      user = λ offset low. sym (kept offset (get_or (user_of before) offset 0));
    })

-- the effect of some patches, followed by the effect of others
LeavesSector-then : {carry t t' r r' : Bool} {header header' : List ℕ → List ℕ}
    {byte byte' : ℕ → ℕ → ℕ} {before middle after : List ℕ}
    → LeavesSector carry t r header byte before middle
    → LeavesSector carry t' r' header' byte' middle after
    → LeavesSector carry (t || t') (r || r') (λ h. header' (header h))
    (λ offset b. byte' offset (byte offset b)) before after
LeavesSector-then {carry} {t} {t'} {r} {r'} {header} {header'} {byte} {byte'} one two = record {
  sector = λ h. two.sector (one.sector h);
  same = λ none. let parts = or_parts t t' none in two.same parts.1 ∙ one.same parts.0;
  consistent = λ none touched. elim (or_cases t t' touched) [
    | inl first ↦ two.stays (one.consistent none first)
    | inr later ↦ two.consistent none later
  ];
  again = λ rebuilt. elim (or_cases r r' rebuilt) [
    | inl first ↦ two.stays (one.again first)
    | inr later ↦ two.again later
  ];
  carried = λ carries none.
      let parts = or_parts r r' none in
      let first = one.carried carries parts.0 in
      let others = two.carried carries parts.1 in
      record { sync = others.sync ∙ first.sync; defect = others.defect ∙ first.defect };
  stays = λ h. two.stays (one.stays h);
  has_header = two.has_header ∙ ap header' one.has_header;
  user = λ offset low. two.user offset low ∙ ap (byte' offset) (one.user offset low);
}

-- ---- one patch

-- the effect of a patch on the sector of a block, by whether the patch is accepted and whether it
-- meets the block
abbrev LeavesBy : Bool → Bool → Bool → Patch → ℕ → List ℕ → List ℕ → Type 0
LeavesBy carry accepted met p block before after =
    LeavesSector carry (accepted && met) ((accepted && met) && not (keeps_old p.edit))
    (λ header. if accepted && met then new_header p.edit header else header)
    (λ offset b. if accepted then byte_by p block offset b else b) before after

module _ (carry : Bool) (base : ℕ) (p : Patch) (old new : List (List ℕ)) (kept : IsPatch p)
    (each : All IsSector old) (block : ℕ) (before after : List ℕ)
    (is : sector_at old base block ≡ Some before)
    (was : sector_at new base block ≡ Some after) where
  sector_met : p.block ≤ block → block < p.block + blocks_met p → AreThere carry old base p
      → IsApplied carry base p old new → LeavesBy carry true true p block before after
  sector_met from to there h =
      let user = user_part (patched_user old base p) (block - p.block) in
      let keeps = keeps_defect carry p.edit in
      let header = new_header p.edit (header_of before) in
      let made = IsApplied-at carry base p old new h block before after from to is was in
      record {
        sector = λ _. Becomes-sector keeps before header user after made;
        same = λ none. absurd cc;
        consistent = λ none met.
            EditResult-encoded carry p.edit before user after (keeps-nothing carry p.edit none) made;
        again = λ rebuilt.
            EditResult-encoded carry p.edit before user after
            (and_left (keeps_old p.edit) carry (not-true (keeps_old p.edit) rebuilt)) made;
        carried = λ carries none.
            EditResult-carried carry p.edit before user after
            (and_from (keeps_old p.edit) carry (not-false (keeps_old p.edit) none) carries) made;
        stays = λ sound. EditResult-consistent carry p before user after kept sound made;
        has_header = Becomes-header keeps before header user after made;
        user = λ offset low.
            ap (λ u. get_or u offset 0) (Becomes-user keeps before header user after made)
            ∙ user_part-byte carry old base p each there kept block offset before from to low is;
      }

  same_at : sector_at new base block ≡ sector_at old base block → after ≡ before
  same_at e = same_Some after before (sym was ∙ e ∙ is)

  Effect-leaves : Effect carry base p old new
      → LeavesBy carry (is_applied (outcome carry old base p)) (meets p block) p block before after
  Effect-leaves h =
      by_effect carry base p old new (λ o. outcome carry old base p ≡ o
      → LeavesBy carry (is_applied o) (meets p block) p block before after)
      (λ applied e. elim (meets-cases p block) [
        | inl met ↦
            subst (λ m. LeavesBy carry true m p block before after) (sym met.0)
            (sector_met met.1 met.2 (accepted-there carry old base p e) applied)
        | inr other ↦
            subst (λ m. LeavesBy carry true m p block before after) (sym other.0)
            (LeavesSector-none carry (byte_by p block) before after
            (λ offset b. byte_by-other p block offset b kept other.1)
            (same_at (applied.others block other.1)))
      ])
      (λ o none stays e.
      subst (λ a. LeavesBy carry a (meets p block) p block before after) (sym none)
      (LeavesSector-none carry (λ offset b. b) before after (λ offset b. refl)
      (same_at (ap (λ l. sector_at l base block) stays))))
      (outcome carry old base p) h refl

-- ---- all sectors

AreSectors-after : (base : ℕ) (old new : List (List ℕ)) → length new ≡ length old
    → All IsSector old
    → ((block : ℕ) (before after : List ℕ) → sector_at old base block ≡ Some before
    → sector_at new base block ≡ Some after → IsSector before → IsSector after)
    → All IsSector new
AreSectors-after base old new count each keeps = λ k d inside.
    let was : sector_at new base (base + k) ≡ Some (get_or new k d) =
    sector_at-add new base k ∙ slice_get-get_or new k d inside in
    let before = sector_at-other new old base (base + k) (get_or new k d) (sym count) was in
    keeps (base + k) before.0 (get_or new k d) before.1 was
    (IsSector-at old base (base + k) before.0 each before.1)

pub Effect-sectors : (carry : Bool) (base : ℕ) (p : Patch) (old new : List (List ℕ)) → IsPatch p
    → All IsSector old → Effect carry base p old new → All IsSector new
Effect-sectors carry base p old new kept each h =
    AreSectors-after base old new (Effect-length carry base p old new h) each
    (λ block before after is was.
    (Effect-leaves carry base p old new kept each block before after is was h).sector)

-- ---- a run

run-leaves : (carry : Bool) (ps : List Patch) (os : List Outcome) (base : ℕ)
    (old last : List (List ℕ)) → All IsPatch ps → All IsSector old
    → PatchSequence carry ps os base old last → (block : ℕ) (before after : List ℕ)
    → sector_at old base block ≡ Some before → sector_at last base block ≡ Some after
    → LeavesSector carry (is_met ps os block) (is_rebuilt ps os block)
    (λ header. header_left ps os block header) (λ offset b. byte_left ps os block offset b)
    before after
run-leaves carry [] [] base old last kept each h block before after is was =
    LeavesSector-none carry (λ offset b. b) before after (λ offset b. refl)
    (same_Some after before (sym was ∙ ap (λ l. sector_at l base block) h ∙ is))
run-leaves carry [] (o ∷ os) base old last kept each h block before after is was = elim h [ ]
run-leaves carry (p ∷ ps) [] base old last kept each h block before after is was = elim h [ ]
run-leaves carry (p ∷ ps) (o ∷ os) base old last kept each h block before after is was =
    let one = All-head IsPatch p ps kept in
    let middle =
    sector_at-other old h.next base block before (Effect-length carry base p old h.next h.effect)
    is in
    LeavesSector-then
    (subst (λ x. LeavesBy carry (is_applied x) (meets p block) p block before middle.0)
    (sym h.decided)
    (Effect-leaves carry base p old h.next one each block before middle.0 is middle.1 h.effect))
    (run-leaves carry ps os base h.next last (All-tail IsPatch p ps kept)
    (Effect-sectors carry base p old h.next one each h.effect) h.others block middle.0 after
    middle.1 was)

pub run-leaves_others : (carry : Bool) (ps : List Patch) (os : List Outcome) (base : ℕ)
    (old last : List (List ℕ)) → All IsPatch ps → All IsSector old
    → PatchSequence carry ps os base old last
    → LeavesOthers carry ps os base old last
run-leaves_others carry ps os base old last kept each h =
    let count = PatchSequence-count carry ps os base old last h in
    let at = run-leaves carry ps os base old last kept each h in
    record {
      count = count;
      sectors =
          AreSectors-after base old last count each
          (λ block before after is was. (at block before after is was).sector);
      others = λ block none. elim (cases_Option (sector_at old base block)) [
        | inl missing ↦ sector_at-none old last base block count missing ∙ sym missing
        | inr some ↦
            let after = sector_at-other old last base block some.0 count some.1 in
            after.1 ∙ ap (λ s. Some s) ((at block some.0 after.0 some.1 after.1).same none)
            ∙ sym some.1
      ];
      consistent = λ block before after none touched is was.
          (at block before after is was).consistent none touched;
      rebuilt = λ block before after rebuilt is was. (at block before after is was).again rebuilt;
      carried = λ block before after carries none is was.
          (at block before after is was).carried carries none;
      stays = λ block before after sound is was. (at block before after is was).stays sound;
      header = λ block before after is was. (at block before after is was).has_header;
      user = λ block offset before after low is was.
          (at block before after is was).user offset low;
    }

-- ---- these properties determine the result

pub leaves-one : (carry : Bool) (ps : List Patch) (os : List Outcome) (base : ℕ)
    (old last last' : List (List ℕ)) → LeavesOthers carry ps os base old last
    → LeavesOthers carry ps os base old last' → last ≡ last'
leaves-one carry ps os base old last last' h h' =
    same_sectors last' last base
    (λ block. elim (cases_Bool (is_met ps os block)) [
      | inr left ↦ h.others block left ∙ sym (h'.others block left)
      | inl touched ↦ elim (cases_Option (sector_at old base block)) [
        | inl none ↦
            sector_at-none old last base block h.count none
            ∙ sym (sector_at-none old last' base block h'.count none)
        | inr some ↦ equal block some.0 touched some.1
      ]
    ])
  where
    equal : (block : ℕ) (before : List ℕ) → is_met ps os block ≡ true
        → sector_at old base block ≡ Some before
        → sector_at last base block ≡ sector_at last' base block
    equal block before touched is =
        let after = sector_at-other old last base block before h.count is in
        let after' = sector_at-other old last' base block before h'.count is in
        let c = IsSector-at last base block after.0 h.sectors after.1 in
        let c' = IsSector-at last' base block after'.0 h'.sectors after'.1 in
        let long = length-user after.0 c.size in
        let users : user_of after.0 ≡ user_of after'.0 =
        ext_get_or 0 (user_of after.0) (user_of after'.0) (long ∙ sym (length-user after'.0 c'.size))
        (λ i inside.
        let low : i < USER_SIZE = omega (arith, long) in
        h.user block i before after.0 low is after.1
        ∙ sym (h'.user block i before after'.0 low is after'.1)) in
        let headers : header_of after.0 ≡ header_of after'.0 =
        h.header block before after.0 is after.1
        ∙ sym (h'.header block before after'.0 is after'.1) in
        let sound : IsConsistent after.0 → IsConsistent after'.0 → after.0 ≡ after'.0 =
        λ one other. sector_unique after.0 after'.0 one other headers users in
        let same : after.0 ≡ after'.0 = elim (cases_Bool carry) [
          | inr none ↦
              sound (h.consistent block before after.0 none touched is after.1)
              (h'.consistent block before after'.0 none touched is after'.1)
          | inl carries ↦ elim (cases_Bool (is_rebuilt ps os block)) [
            | inl again ↦
                sound (h.rebuilt block before after.0 again is after.1)
                (h'.rebuilt block before after'.0 again is after'.1)
            | inr kept ↦
                let one = h.carried block before after.0 carries kept is after.1 in
                let other = h'.carried block before after'.0 carries kept is after'.1 in
                sector_by_defect after.0 after'.0 c.size c.bytes c'.size c'.bytes
                (one.sync ∙ sym other.sync) headers users (one.defect ∙ sym other.defect)
          ]
        ] in
        after.1 ∙ ap (λ s. Some s) same ∙ sym after'.1
