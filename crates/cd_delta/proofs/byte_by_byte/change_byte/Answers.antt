use Rattle.std.proofs.Common.{◌≡◌, ◌≢◌, ℕ, ◌≤◌, Contains, length, get_or, bit_xor, sym, ap, ◌∙◌, arith}
use Rattle.std.proofs.lemmas.List.{at_drop_all, get_or-set_other}
use Rattle.cd_code.specs.Field.{AreBytes}
use Rattle.cd_code.specs.Syndrome.{with_added}
use Rattle.cd_delta.specs.ParityChanges.{with_changes}
use Rattle.cd_delta.proofs.AddLemmas.{added-value, changed-other, places_of, places_of-after}
use Rattle.cd_delta.proofs.byte_by_byte.change_byte.Goals as goal

pub returns : goal.returns
returns c =
    let old = c.args.s.now in
    let place = c.args.place in
    let value = c.args.value in
    let read = c.bytes.result.now in
    let d = bit_xor (get_or read place 0) value in
    let changes = c.parity_changes-changes.result in
    let made = c.parity_changes-changes.ensures in
    let final = c.loop-change.s in
    let below = c.requires.below in
    let over : length changes ≤ c.loop-change.change-index = omega arith in
    let whole : final ≡ with_changes (with_added old place d) changes =
    sym (at_drop_all (with_changes final) changes c.loop-change.change-index over)
    ∙ c.loop-change.invariant.rest ∙ ap (λ s. with_changes s changes) c.add_at.ensures.sum in
    let size : length old ≡ 2352 = ap length (sym c.bytes.ensures.bytes) ∙ c.bytes.ensures.size in
    let each : AreBytes old = rw c.bytes.ensures.bytes at c.bytes.ensures.each in
    let others : (i : ℕ) → i ≢ place → (Contains (places_of changes) i → ⊥)
    → get_or final i 0 ≡ get_or old i 0 =
    λ i apart none.
    ap (λ s. get_or s i 0) whole
    ∙ changed-other changes (with_added old place d) i none
    ∙ get_or-set_other old place i (bit_xor (get_or old place 0) d) 0 apart in
    let read_size = c.bytes.ensures.size in
    record {
      byte =
          ap (λ s. get_or s place 0) whole
          ∙ changed-other changes (with_added old place d) place
          (places_of-after changes place made.inside below)
          ∙ ap (λ s. get_or (with_added s place d) place 0) (sym c.bytes.ensures.bytes)
          ∙ added-value read place value (omega arith);
      syndromes = rw whole (made.keeps old each size);
      others = λ i apart none. others i apart (λ found. none (rw made.places at found));
      front = λ i front apart. others i apart (places_of-after changes i made.inside front);
      size = c.loop-change.invariant.size ∙ sym size;
      each = c.loop-change.invariant.each;
    }
