use Rattle.std.proofs.Common.{◌+◌, sym, ◌∙◌, below_more, arith}
use Rattle.cd_patch.proofs.DecidingLemmas.{read-byte, no_difference, a_difference, Some-same}
use Rattle.cd_patch.proofs.deciding.first_difference.Goals as goal

pub loop-i-preserved : goal.loop-i-preserved
loop-i-preserved c =
    let place = c.args.offset + c.loop-i.i in
    let byte =
    read-byte c.args.sectors.now place c.index-sectors-place.result c.user.result.now
    c.user.ensures.user (omega arith) c.index-sectors-place.is in
    below_more _ _ c.loop-i.invariant (sym byte ∙ c.if-user-place.false)

pub returns-then-user-place-clause-value : goal.returns-then-user-place-clause-value
returns-then-user-place-clause-value c =
    let place = c.args.offset + c.loop-i.i in
    let byte =
    read-byte c.args.sectors.now place c.index-sectors-place.result c.user.result.now
    c.user.ensures.user (omega arith) c.index-sectors-place.is in
    λ base count users room fits.
    Some-same _ place (omega arith)
    ∙ sym (a_difference c.args.sectors.now c.args.offset c.args.old.now base count users room fits
    c.loop-i.i c.loop-i-test.true c.loop-i.invariant (λ e. c.if-user-place.true (byte ∙ e)))

pub returns-clause-value : goal.returns-clause-value
returns-clause-value c =
    λ base count users room fits.
    sym (no_difference c.args.sectors.now c.args.offset c.args.old.now base count users room fits
    (λ k below. c.loop-i.invariant k (omega arith)))
