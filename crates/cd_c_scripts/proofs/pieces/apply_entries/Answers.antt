use Rattle.std.proofs.Common.{◌≡◌, add-one, ◌∙◌, true, length, subst, refl}
use Rattle.std.specs.List.{slice_index_or}
use Rattle.cd_patch.specs.Deciding.{outcome}
use Rattle.cd_patch.specs.Effect.{Effect}
use Rattle.cd_c_scripts.specs.Entries.{IsNoEntry}
use Rattle.cd_c_scripts.specs.Flags.{carries}
use Rattle.cd_c_scripts.specs.Pieces.{Fits, Tells}
use Rattle.cd_c_scripts.specs.declared.pieces.Answer.{Answer}
use Rattle.cd_c_scripts.proofs.EntryLemmas.{entry_says}
use Rattle.cd_c_scripts.proofs.PieceLemmas.{IsDone-more, IsDone-none, fits_by}
use Rattle.cd_c_scripts.proofs.pieces.apply_entries.Goals as goal

pub loop-place-init : goal.loop-place-init
loop-place-init c = record {
  size = refl;
  done =
      IsDone-none c.args.script.now c.args.version c.args.flags c.args.base c.args.first c.args.is_last
      c.args.entries.now c.args.sectors.now c.args.answers.now;
}

pub returns-in_default-clause-entry : goal.returns-in_default-clause-entry
returns-in_default-clause-entry c = λ why e at.
    let same : c.entry_of-entry.result.now ≡ e = cc (c.entry_of-entry.ensures, at) in
    subst (λ f. IsNoEntry c.args.script.now c.args.version c.args.flags f) same
    c.in_default.ensures.none

pub loop-place-preserved : goal.loop-place-preserved
loop-place-preserved c =
    let e = c.entry_of-entry.result.now in
    let is_entry = c.in-Some.ensures.lends in
    let said = entry_says is_entry in
    let p = c.in-Some.patch in
    let decided : c.apply_at-outcome.result
    ≡ outcome (carries c.args.flags) c.loop-place.sectors c.args.first p =
    rw (← c.carries.ensures) c.apply_at-outcome.ensures.outcome in
    let effect : Effect (carries c.args.flags) c.args.first p c.loop-place.sectors
    c.apply_at-outcome.new.sectors =
    rw (← c.carries.ensures) c.apply_at-outcome.ensures.effect in
    let agrees : c.fits.result ≡ true = cc (c.if-not-fits.false) in
    let fit : Fits c.args.base c.args.first (length c.loop-place.sectors) c.args.is_last p =
    fits_by c.args.base c.args.first (length c.loop-place.sectors) c.args.is_last e p said
    (c.fits.ensures.0 agrees) in
    let tells : (t : Answer) → Tells p.line c.apply_at-outcome.result
    (slice_index_or c.tell.new.answers c.loop-place.place t) =
    λ t. rw said.line (c.tell.ensures.answer t) in
    record {
      size = c.tell.ensures.size ∙ c.loop-place.invariant.size;
      done =
          rw add-one (IsDone-more c.args.script.now c.args.version c.args.flags c.args.base c.args.first
          c.args.is_last c.args.entries.now c.loop-place.place e p c.apply_at-outcome.result
          c.args.sectors.now c.loop-place.sectors c.apply_at-outcome.new.sectors c.args.answers.now
          c.loop-place.answers c.tell.new.answers c.entry_of-entry.ensures is_entry fit decided effect
          c.tell.ensures.size c.tell.ensures.before c.tell.ensures.after tells
          c.loop-place.invariant.done);
    }
