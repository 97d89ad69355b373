-- The effect of an accepted patch on the sectors, and the ranges of edits.
use Rattle.std.proofs.Common.{◌≡◌, ℕ, ◌+◌, ◌-◌, ◌<◌, ◌≤◌, inl, inr, Bool, true, false, List, [], ◌++◌, length, get_or, take, drop, Option, Some, None, refl, sym, ap, subst, ◌∙◌, arith}
use Rattle.std.specs.Prelude.{All, ◌&&◌}
use Rattle.std.proofs.lemmas.List.{get_or_append_left, length-append, length-drop, length-take-le}
use Rattle.std.proofs.lemmas.Option.{get_or_from_slice_get}
use Rattle.cd_script.specs.Patch.{IsPatch}
use Rattle.cd_script.specs.PatchForm.{Patch}
use Rattle.cd_sector.specs.Consistent.{IsConsistent, header_of, user_of}
use Rattle.cd_sector.specs.Kind.{kind_of}
use Rattle.cd_delta.specs.Writing.{with_range}
use Rattle.cd_sector.specs.declared.kinds.SectorKind.TheVariants.{Mode1}
use Rattle.cd_patch.specs.Blocks.{blocks_met, sector_at}
use Rattle.cd_patch.specs.EditMeaning.{EditMeaning, keeps_defect, keeps_old, meaning}
use Rattle.cd_patch.specs.EditMeaning.{needs_consistent, new_bytes, new_header, with_address}
use Rattle.cd_patch.specs.Deciding.{joined_user, outcome, user_met}
use Rattle.cd_patch.specs.Effect.{Becomes, IsApplied, patched_user, user_part}
use Rattle.cd_patch.specs.Outcome.{is_applied}
use Rattle.cd_patch.specs.Parts.{EachBecomes, HasPart, HaveUsers}
use Rattle.cd_patch.specs.declared.outcome.Outcome.{Outcome}
use Rattle.cd_patch.specs.declared.outcome.Outcome.TheVariants.{Applied, Damaged, Differs, NoBlock, NotMode1}
use Rattle.cd_patch.proofs.general.Elements.{get_or-take_default, slice_get-append_drop}
use Rattle.cd_patch.proofs.DecidingLemmas.{AreMet-from, BlocksHaveUsers-from, joined-byte, length-joined, unrefused, user_at-sector}
use Rattle.cd_patch.proofs.BecomesLemmas.{Becomes-sector}
use Rattle.cd_patch.proofs.MeaningLemmas.{FitsMeaning, address-only, patch-fits}
use Rattle.cd_patch.proofs.SectorAtLemmas.{sector_at-add, sector_at-below}
use Rattle.cd_patch.proofs.RangeLemmas.{Spans, range-inside, range-spans}
use Rattle.cd_patch.proofs.PartLemmas.{HasPart-nothing, length-user, user_part-of}

-- ---- the rule for a sector that a patch meets

abbrev pub part_by : Bool → Patch → ℕ → List ℕ → List ℕ → Type 0
part_by carry p k before after =
    HasPart (keeps_defect carry p.edit) k p.offset (new_bytes p.edit)
    (new_header p.edit (header_of before)) before after

-- ---- the kinds of edits

-- an edit that changes the existing sector and writes no address writes bytes
pub part-spans : (p : Patch) {keeps : Bool} {address : Option (List ℕ)} → IsPatch p
    → keeps ≡ keeps_old p.edit → keeps ≡ true → address ≡ (meaning p.edit).address → address ≡ None
    → Spans p.offset (length (new_bytes p.edit)) (blocks_met p)
part-spans p patch row builds cell none =
    range-spans p patch ((patch-fits p patch).some (sym row ∙ builds) (sym cell ∙ none))

-- an edit that writes an address writes no bytes
pub part-address : {m : EditMeaning} (carry : Bool) (k offset : ℕ) (address before after : List ℕ)
    → FitsMeaning offset m → m.address ≡ Some address
    → Becomes carry before (address ++ drop 3 (header_of before)) (user_of before) after
    → HasPart (m.keeps_old && carry) k offset m.bytes (with_address m.address (header_of before))
    before after
part-address {m} carry k offset address before after fits is made =
    let only = address-only fits is in
    let header = address ++ drop 3 (header_of before) in
    rw (is, only.keeps_old)
    (HasPart-nothing carry k offset m.bytes header before after (ap length only.no_bytes) made)

-- an edit that encodes the sector again writes neither bytes nor an address
pub part-encoded : {m : EditMeaning} (carry : Bool) (k offset : ℕ) (before after : List ℕ)
    → FitsMeaning offset m → m.keeps_old ≡ false
    → Becomes false before (header_of before) (user_of before) after
    → HasPart (m.keeps_old && carry) k offset m.bytes (with_address m.address (header_of before))
    before after
part-encoded {m} carry k offset before after fits is made =
    let neither = fits.encoded is in
    let header = header_of before in
    rw (is, neither.1)
    (HasPart-nothing false k offset m.bytes header before after (ap length neither.0) made)

-- ---- the sectors that an accepted patch meets

-- an accepted patch, and the `n` sectors that it meets
pub record Taken (carry : Bool) (p : Patch) (ss : List (List ℕ)) (o : Outcome) (n : ℕ)
    : Type 0 where
  pub is : o ≡ Applied
  pub applied : outcome carry ss p.block p ≡ Applied
  pub room : n ≤ length ss
  pub size : length (take n ss) ≡ blocks_met p
  pub mode : All (λ s. kind_of s ≡ Mode1) (take n ss)
  pub sound : needs_consistent carry p.edit ≡ true → All IsConsistent (take n ss)

accepted : (o : Outcome) → is_applied o ≡ true → o ≡ Applied
accepted Applied h = refl
accepted (NoBlock block) h = cc
accepted (NotMode1 block) h = cc
accepted (Damaged block) h = cc
accepted (Differs block offset) h = cc

-- a property of each of the first n elements is a property of the front
All-front : (P : List ℕ → Type 0) (ss : List (List ℕ)) (n : ℕ) → n ≤ length ss
    → ((k : ℕ) → k < n → P (get_or ss k [])) → All P (take n ss)
All-front P ss n room each k d inside =
    let size = length-take-le n ss room in
    subst P (sym (get_or-take_default ss n k d [] room inside)) (each k (omega arith))

pub taken : {carry : Bool} {p : Patch} {ss : List (List ℕ)} {o : Outcome} {test : Bool} {n : ℕ}
    → o ≡ outcome carry ss p.block p → test ≡ is_applied o → test ≡ true → n ≡ blocks_met p
    → Taken carry p ss o n
taken {carry} {p} {ss} {o} {test} {n} decided tested passes number =
    let is : o ≡ Applied = accepted o (sym tested ∙ passes) in
    let met =
    AreMet-from ss p.block (needs_consistent carry p.edit) (blocks_met p)
    (unrefused carry ss p.block p (sym decided ∙ is)) in
    let room : n ≤ length ss = omega (arith, met.enough) in
    record {
      is = is;
      applied = sym decided ∙ is;
      room = room;
      size = length-take-le n ss room ∙ number;
      mode = All-front (λ s. kind_of s ≡ Mode1) ss n room (λ k below. met.mode k (omega arith));
      sound = λ asked. All-front IsConsistent ss n room (λ k below. met.sound asked k (omega arith));
    }

-- ---- the effect

pub IsApplied-from : (carry : Bool) (p : Patch) (ss front : List (List ℕ))
    → blocks_met p ≤ length ss
    → HaveUsers ss (blocks_met p)
    → EachBecomes (part_by carry p) (take (blocks_met p) ss) front
    → IsApplied carry p.block p ss (front ++ drop (blocks_met p) ss)
unfolding patched_user user_met
IsApplied-from carry p ss front room users each =
    let n = blocks_met p in
    let carried = keeps_defect carry p.edit in
    let bytes = new_bytes p.edit in
    let joined = joined_user ss p.block p.block n in
    let new = front ++ drop n ss in
    let cut = length-take-le n ss room in
    let long : length front ≡ n = each.size ∙ cut in
    let rest = length-drop n ss in
    let whole = length-append front (drop n ss) in
    let all = BlocksHaveUsers-from ss p.block n users room in
    record {
      count = omega arith;
      met = λ k before after below old_at new_at.
          let inside : k < length (take n ss) = omega arith in
          let was : get_or ss k [] ≡ before =
          get_or_from_slice_get ss k before [] (sym (sector_at-add ss p.block k) ∙ old_at) in
          let is : get_or front k [] ≡ after =
          sym (get_or_append_left front (drop n ss) [] k (omega arith))
          ∙ get_or_from_slice_get new k after [] (sym (sector_at-add new p.block k) ∙ new_at) in
          let old_part =
          subst (λ s. HasPart carried k p.offset bytes (new_header p.edit (header_of s)) s
          (get_or front k [])) (get_or-take_default ss n k [] [] room inside ∙ was)
          (each.each k inside) in
          let header = new_header p.edit (header_of before) in
          let part : HasPart carried k p.offset bytes header before after =
          subst (HasPart carried k p.offset bytes header before) is old_part in
          let sector = Becomes-sector carried before header (user_of after) after part.made in
          let user : user_of after ≡ user_part (with_range joined p.offset bytes) k =
          user_part-of carried k n p.offset bytes joined header before after below
          (length-joined 2048 ss p.block p.block n all) (range-inside p)
          (length-user after sector.size)
          (λ j in_block.
          joined-byte 2048 ss p.block p.block n all k j below in_block
          ∙ ap (λ u. get_or u j 0) (user_at-sector ss p.block k (omega arith) ∙ ap user_of was))
          part in
          subst (λ u. Becomes carried before header u after) user part.made;
      others = λ block out.
          elim out [
            | inl below ↦
                sector_at-below new p.block block below
                ∙ sym (sector_at-below ss p.block block below)
            | inr after ↦
                let k = block - p.block in
                let at : p.block + k ≡ block = omega arith in
                subst (λ b. sector_at new p.block b ≡ sector_at ss p.block b) at
                (sector_at-add new p.block k ∙ slice_get-append_drop front ss n k long (omega arith)
                ∙ sym (sector_at-add ss p.block k))
          ];
    }
