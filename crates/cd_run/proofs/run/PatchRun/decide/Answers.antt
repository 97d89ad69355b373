use Rattle.std.proofs.Common.{◌≡◌, Bool, true, false, cond, refl, arith, ap, ◌∙◌}
use Rattle.std.specs.Int.{from_bool}
use Rattle.cd_patch.specs.Outcome.{is_applied}
use Rattle.cd_run.proofs.PlaceLemmas.{HasReached-decided, decided_missing}
use Rattle.cd_run.proofs.run.PatchRun.decide.Goals as goal

as_number : (b : Bool) → from_bool b ≡ cond b 1 0
as_number true = refl
as_number false = refl

pub returns-clause-goes : goal.returns-clause-goes
returns-clause-goes c = λ taken left base seen done outcomes may g.
    let self = c.args.self.now in
    let applied =
    c.from.ensures ∙ ap from_bool c.is_applied.ensures
    ∙ as_number (is_applied c.apply_among-outcome.result) in
    rw (applied, c.apply_among-outcome.ensures.others)
    (HasReached-decided c.args.hand.now c.apply_among-outcome.new.hand self.held self.stage _
    c.apply_among-outcome.result (omega (arith, c.requires.within))
    c.apply_among-outcome.ensures.outcome c.apply_among-outcome.ensures.effect c.requires.patch
    may g)

pub returns-clause-missing : goal.returns-clause-missing
returns-clause-missing c = λ none.
    c.apply_among-outcome.ensures.outcome
    ∙ decided_missing c.args.carry c.args.patch.now c.args.hand.now c.args.self.now.held none
