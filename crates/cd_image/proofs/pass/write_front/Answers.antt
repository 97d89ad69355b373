use Rattle.std.proofs.Common.{◌≡◌, ◌∷◌, arith, ap, ◌∙◌}
use Rattle.std.specs.Prelude.{drop}
use Rattle.std.proofs.lemmas.Result.{err_from_is_err_and}
use Rattle.cd_run.specs.Running.{closed_at, window_of}
use Rattle.cd_image.proofs.ApplyLemmas.{Applies-write}
use Rattle.cd_image.proofs.PassingLemmas.{Going-send}
use Rattle.cd_run.proofs.PlaceLemmas.{first_is, first_place, unclosed_at}
use Rattle.cd_image.proofs.pass.write_front.Goals as goal

pub returns-in_err-write_all-clause-goes : goal.returns-in_err-write_all-clause-goes
returns-in_err-write_all-clause-goes g c =
    let failed = err_from_is_err_and c.from_residual.result c.from_residual.ensures.1 in
    let run = c.args.run.now in
    let hand = c.args.hand.now in
    let first = first_is hand _ _ (omega (arith, c.requires.places)) c.bytes.ensures.bytes in
    let window : window_of run hand ≡ c.bytes.result.now ∷ drop 1 (window_of run hand) =
    rw first
    (first_place hand run.held c.requires.some
    (omega (arith, c.requires.places, c.requires.sound.held))) in
    let unclosed =
    unclosed_at run.stage (omega (arith, c.requires.sound.closed, c.requires.some)) in
    rw (failed.1, failed.2)
    (λ carry taken left base start image log ahead going.
    Applies-write (rw (window, unclosed) at going) c.in_err-write_all.ensures c.bytes.ensures.size
    ahead)

pub returns-clause-goes : goal.returns-clause-goes
returns-clause-goes g c = λ carry taken left base start image log ahead going.
    let run = c.args.run.now in
    let first =
    first_is c.args.hand.now _ _ (omega (arith, c.requires.places)) c.bytes.ensures.bytes in
    let unclosed =
    unclosed_at run.stage (omega (arith, c.requires.sound.closed, c.requires.some)) in
    Going-send going c.sent_front.ensures.tail_stays unclosed
    (ap closed_at c.sent_front.ensures.stage ∙ unclosed)
    (c.sent_front.ensures.goes carry taken left base going.seen going.done going.outcomes ahead
    going.state)
    (rw first at c.in_ok-write_all.ensures)
