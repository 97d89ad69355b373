use Rattle.std.proofs.Common.{[], arith, ap, ◌∙◌}
use Rattle.std.proofs.lemmas.Result.{err_from_is_err_and}
use Rattle.std.proofs.lemmas.List.{length-take-le}
use Rattle.cd_run.specs.Running.{closed_at}
use Rattle.cd_image.proofs.AdvanceLemmas.{wants_window}
use Rattle.cd_image.proofs.ApplyLemmas.{Applies-unread}
use Rattle.cd_image.proofs.PassingLemmas.{Going-end, Going-sector}
use Rattle.cd_run.proofs.PlaceLemmas.{tail_none}
use Rattle.cd_image.proofs.pass.read_next.Goals as goal
use Rattle.cd_image.proofs.general.Lists.{long_enough}

pub returns-in_err-read_to-clause-goes : goal.returns-in_err-read_to-clause-goes
returns-in_err-read_to-clause-goes g c =
    let failed = err_from_is_err_and c.from_residual.result c.from_residual.ensures.1 in
    let run = c.args.run.now in
    let hand = c.args.hand.now in
    rw (failed.1, failed.2)
    (λ carry taken left base start out log wants ahead going.
    Applies-unread (rw c.requires.unread at going)
    (wants_window hand run.held (omega (arith, c.requires.room, c.requires.places)) wants)
    (omega (
      arith,
      c.requires.room,
      c.requires.places,
      length-take-le run.held hand,
    ))
    [] _ c.in_err-read_to.ensures.reads)

pub returns-in-None-clause-goes : goal.returns-in-None-clause-goes
returns-in-None-clause-goes g c = λ carry taken left base start out log wants ahead going.
    let comes = rw c.in-None.is at c.in_ok-read_to.ensures.reads in
    Going-sector going (tail_none _ _ c.requires.unread) (ap closed_at c.requires.unread)
    (ap closed_at (c.took_sector.ensures.stage ∙ c.requires.unread))
    (tail_none _ _ (c.took_sector.ensures.stage ∙ c.requires.unread))
    (c.took_sector.ensures.goes carry taken left base going.seen going.done going.outcomes
    c.read_to.new.hand comes.size ahead
    (rw (c.read_to.ensures.others, c.requires.unread) (rw c.requires.unread at going.state)))
    comes

pub returns-in-Some-clause-goes : goal.returns-in-Some-clause-goes
returns-in-Some-clause-goes g c = λ carry taken left base start out log wants ahead going.
    let comes = rw c.in-Some.is at c.in_ok-read_to.ensures.reads in
    Going-end going (tail_none _ _ c.requires.unread) (ap closed_at c.requires.unread)
    (ap closed_at c.took_end.ensures.stage) (c.took_end.ensures.tail_comes c.read_to.new.hand)
    (c.took_end.ensures.goes carry taken left base going.seen going.done going.outcomes
    c.read_to.new.hand (long_enough _ _ comes.size) ahead
    (rw (c.read_to.ensures.others, c.requires.unread) (rw c.requires.unread at going.state)))
    comes
