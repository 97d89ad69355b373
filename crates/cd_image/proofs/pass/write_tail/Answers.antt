use Rattle.std.proofs.Common.{ap}
use Rattle.std.proofs.lemmas.Result.{err_from_is_err_and}
use Rattle.cd_run.specs.Running.{closed_at}
use Rattle.cd_image.proofs.CloseLemmas.{Closes-tail}
use Rattle.cd_image.proofs.PassingLemmas.{Going-close}
use Rattle.cd_image.proofs.pass.write_tail.Goals as goal

pub returns-in_err-write_all-clause-goes : goal.returns-in_err-write_all-clause-goes
returns-in_err-write_all-clause-goes g c =
    let failed = err_from_is_err_and c.from_residual.result c.from_residual.ensures.1 in
    rw (failed.1, failed.2)
    (λ carry taken left base start image log going.
    Closes-tail (rw (c.tail_in.ensures.bytes, c.requires.empty, c.requires.ended) at going)
    c.in_err-write_all.ensures)

pub returns-clause-goes : goal.returns-clause-goes
returns-clause-goes g c = λ carry taken left base start image log going.
    Going-close going (c.sent_tail.ensures.tail_stays c.args.hand.now) (ap closed_at c.requires.ended) c.tail_in.ensures.bytes
    (ap closed_at c.sent_tail.ensures.stage)
    (c.sent_tail.ensures.goes carry taken left base going.seen going.done going.outcomes c.args.hand.now
    going.state)
    c.in_ok-write_all.ensures
