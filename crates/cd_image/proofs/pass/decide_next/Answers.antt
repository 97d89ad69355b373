use Rattle.std.proofs.Common.{arith, ap, length}
use Rattle.std.proofs.lemmas.Result.{err_from_is_err_and}
use Rattle.std.proofs.lemmas.List.{length-take-le}
use Rattle.cd_run.specs.Running.{closed_at}
use Rattle.cd_image.proofs.CloseLemmas.{Applies-line}
use Rattle.cd_image.proofs.PassingLemmas.{Going-take}
use Rattle.cd_run.proofs.PlaceLemmas.{decidable}
use Rattle.cd_image.proofs.pass.decide_next.Goals as goal

pub returns-in_err-send_outcome-clause-goes : goal.returns-in_err-send_outcome-clause-goes
returns-in_err-send_outcome-clause-goes g c =
    let failed = err_from_is_err_and c.from_residual.result c.from_residual.ensures.1 in
    let run = c.args.run.now in
    let hand = c.args.hand.now in
    let goes = rw c.lend.ensures at c.decide-outcome.ensures.goes in
    let missing = rw c.lend.ensures at c.decide-outcome.ensures.missing in
    rw (failed.1, failed.2)
    (λ taken left base start image out may going.
    Applies-line _ going c.decide-outcome.ensures.tail_stays
    (decidable c.args.patch.now hand run.held run.block run.sectors run.stage _
    (omega (arith, c.requires.places, c.requires.sound.held)) may)
    (λ none. missing
    (omega (
      arith,
      ap length none,
      length-take-le run.held hand,
      c.requires.places,
      c.requires.sound.held,
    )))
    (goes taken left base going.seen going.done going.outcomes may
    going.state)
    c.in_err-send_outcome.ensures)

pub returns-clause-goes : goal.returns-clause-goes
returns-clause-goes g c = λ taken left base start image out may going.
    let goes = rw c.lend.ensures at c.decide-outcome.ensures.goes in
    Going-take _ going c.decide-outcome.ensures.tail_stays (ap closed_at c.decide-outcome.ensures.stage)
    (goes taken left base going.seen going.done going.outcomes may
    going.state)
    c.in_ok-send_outcome.ensures
