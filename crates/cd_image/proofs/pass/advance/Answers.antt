use Rattle.std.proofs.Common.{drop, add-one, arith, take-append-drop}
use Rattle.std.proofs.lemmas.Option.{slice_get_within}
use Rattle.std.proofs.lemmas.Result.{err_from_is_err_and}
use Rattle.cd_image.proofs.AdvanceLemmas.{begun}
use Rattle.cd_run.proofs.LeftLemmas.{copies_none, decides_this, is_ahead, is_patch, next_first, next_taken, none_left, rising_left}
use Rattle.cd_image.proofs.pass.advance.Goals as goal

pub returns-in_err-read_next-in-Copy-clause-goes : goal.returns-in_err-read_next-in-Copy-clause-goes
returns-in_err-read_next-in-Copy-clause-goes g c =
    let ps = c.args.patches.now in
    let run = c.args.run.now in
    let failed = err_from_is_err_and c.from_residual.result c.from_residual.ensures.1 in
    rw (failed.1, failed.2)
    (λ base start going.
    let next = rw c.in-Copy.is at (c.next.ensures.next (drop run.decided ps)
    (is_ahead (λ r. r.now) ps run.decided run.block c.patch_at-patch.result c.ahead.result
    c.patch_at-patch.ensures.some c.patch_at-patch.ensures.none c.ahead.ensures.some
    c.ahead.ensures.none)
    (rising_left ps run.decided c.requires.patches.rising) (begun run c.args.hand.now going)) in
    let ready = rw c.in-Copy.is at c.next.ensures.ready in
    rw take-append-drop at (c.in_err-read_next-in-Copy.ensures.goes c.args.carry _ _ base start _ _ (copies_none _ ready.0 ready.2 next)
    (λ k d inside. omega (arith, next k d inside)) going))

pub returns-in_ok-read_next-in-Copy-clause-goes : goal.returns-in_ok-read_next-in-Copy-clause-goes
returns-in_ok-read_next-in-Copy-clause-goes g c =
    let ps = c.args.patches.now in
    let run = c.args.run.now in
    λ base start going.
    let next = rw c.in-Copy.is at (c.next.ensures.next (drop run.decided ps)
    (is_ahead (λ r. r.now) ps run.decided run.block c.patch_at-patch.result c.ahead.result
    c.patch_at-patch.ensures.some c.patch_at-patch.ensures.none c.ahead.ensures.some
    c.ahead.ensures.none)
    (rising_left ps run.decided c.requires.patches.rising) (begun run c.args.hand.now going)) in
    let ready = rw c.in-Copy.is at c.next.ensures.ready in
    rw c.in_ok-read_next-in-Copy.ensures.decided
    (c.in_ok-read_next-in-Copy.ensures.goes c.args.carry _ _ base start _ _ (copies_none _ ready.0 ready.2 next)
    (λ k d inside. omega (arith, next k d inside)) going)

pub returns-in_err-read_next-in-Read-clause-goes : goal.returns-in_err-read_next-in-Read-clause-goes
returns-in_err-read_next-in-Read-clause-goes g c =
    let ps = c.args.patches.now in
    let run = c.args.run.now in
    let failed = err_from_is_err_and c.from_residual-in_err-read_next-in-Read.result c.from_residual-in_err-read_next-in-Read.ensures.1 in
    rw (failed.1, failed.2)
    (λ base start going.
    let next = rw c.in-Read.is at (c.next.ensures.next (drop run.decided ps)
    (is_ahead (λ r. r.now) ps run.decided run.block c.patch_at-patch.result c.ahead.result
    c.patch_at-patch.ensures.some c.patch_at-patch.ensures.none c.ahead.ensures.some
    c.ahead.ensures.none)
    (rising_left ps run.decided c.requires.patches.rising) (begun run c.args.hand.now going)) in
    rw take-append-drop at (c.in_err-read_next-in-Read.ensures.goes c.args.carry _ _ base start _ _ next.0 next.1 going))

pub returns-in_ok-read_next-in-Read-clause-goes : goal.returns-in_ok-read_next-in-Read-clause-goes
returns-in_ok-read_next-in-Read-clause-goes g c =
    let ps = c.args.patches.now in
    let run = c.args.run.now in
    λ base start going.
    let next = rw c.in-Read.is at (c.next.ensures.next (drop run.decided ps)
    (is_ahead (λ r. r.now) ps run.decided run.block c.patch_at-patch.result c.ahead.result
    c.patch_at-patch.ensures.some c.patch_at-patch.ensures.none c.ahead.ensures.some
    c.ahead.ensures.none)
    (rising_left ps run.decided c.requires.patches.rising) (begun run c.args.hand.now going)) in
    rw c.in_ok-read_next-in-Read.ensures.decided
    (c.in_ok-read_next-in-Read.ensures.goes c.args.carry _ _ base start _ _ next.0 next.1 going)

pub returns-in_err-write_front-in-Send-clause-goes : goal.returns-in_err-write_front-in-Send-clause-goes
returns-in_err-write_front-in-Send-clause-goes g c =
    let ps = c.args.patches.now in
    let run = c.args.run.now in
    let failed = err_from_is_err_and c.from_residual-in_err-write_front-in-Send.result c.from_residual-in_err-write_front-in-Send.ensures.1 in
    rw (failed.1, failed.2)
    (λ base start going.
    let next = rw c.in-Send.is at (c.next.ensures.next (drop run.decided ps)
    (is_ahead (λ r. r.now) ps run.decided run.block c.patch_at-patch.result c.ahead.result
    c.patch_at-patch.ensures.some c.patch_at-patch.ensures.none c.ahead.ensures.some
    c.ahead.ensures.none)
    (rising_left ps run.decided c.requires.patches.rising) (begun run c.args.hand.now going)) in
    rw take-append-drop at (c.in_err-write_front-in-Send.ensures.goes c.args.carry _ _ base start _ _ next going))

pub returns-in_ok-write_front-in-Send-clause-goes : goal.returns-in_ok-write_front-in-Send-clause-goes
returns-in_ok-write_front-in-Send-clause-goes g c =
    let ps = c.args.patches.now in
    let run = c.args.run.now in
    λ base start going.
    let next = rw c.in-Send.is at (c.next.ensures.next (drop run.decided ps)
    (is_ahead (λ r. r.now) ps run.decided run.block c.patch_at-patch.result c.ahead.result
    c.patch_at-patch.ensures.some c.patch_at-patch.ensures.none c.ahead.ensures.some
    c.ahead.ensures.none)
    (rising_left ps run.decided c.requires.patches.rising) (begun run c.args.hand.now going)) in
    rw c.in_ok-write_front-in-Send.ensures.decided
    (c.in_ok-write_front-in-Send.ensures.goes c.args.carry _ _ base start _ _ next going)

pub returns-in_err-write_tail-in-SendTail-clause-goes : goal.returns-in_err-write_tail-in-SendTail-clause-goes
returns-in_err-write_tail-in-SendTail-clause-goes g c =
    let ps = c.args.patches.now in
    let run = c.args.run.now in
    let failed = err_from_is_err_and c.from_residual-in_err-write_tail-in-SendTail.result c.from_residual-in_err-write_tail-in-SendTail.ensures.1 in
    rw (failed.1, failed.2)
    (λ base start going.
    rw take-append-drop at (c.in_err-write_tail-in-SendTail.ensures.goes c.args.carry _ _ base start _ _ going))

pub returns-in_ok-write_tail-in-SendTail-clause-goes : goal.returns-in_ok-write_tail-in-SendTail-clause-goes
returns-in_ok-write_tail-in-SendTail-clause-goes g c =
    let ps = c.args.patches.now in
    let run = c.args.run.now in
    λ base start going.
    rw c.in_ok-write_tail-in-SendTail.ensures.decided
    (c.in_ok-write_tail-in-SendTail.ensures.goes c.args.carry _ _ base start _ _ going)

pub decide_next-requires-clause-patch : goal.decide_next-requires-clause-patch
decide_next-requires-clause-patch g c =
    let ps = c.args.patches.now in
    let run = c.args.run.now in
    let p = c.unwrap.result.now in
    let is = rw c.unwrap.ensures at c.patch_at-patch.ensures.some in
    is_patch ps run.decided p is c.requires.patches.each

pub decide_next-requires-clause-few : goal.decide_next-requires-clause-few
decide_next-requires-clause-few g c =
    let ps = c.args.patches.now in
    let run = c.args.run.now in
    let p = c.unwrap.result.now in
    let is = rw c.unwrap.ensures at c.patch_at-patch.ensures.some in
    omega (arith, slice_get_within ps run.decided p is, c.requires.patches.count)

pub returns-in_err-decide_next-in-Decide-clause-goes : goal.returns-in_err-decide_next-in-Decide-clause-goes
returns-in_err-decide_next-in-Decide-clause-goes g c =
    let ps = c.args.patches.now in
    let run = c.args.run.now in
    let p = c.unwrap.result.now in
    let is = rw c.unwrap.ensures at c.patch_at-patch.ensures.some in
    let failed = err_from_is_err_and c.from_residual-in_err-decide_next-in-Decide.result c.from_residual-in_err-decide_next-in-Decide.ensures.1 in
    rw (failed.1, failed.2)
    (λ base start going.
    let next = rw c.in-Decide.is at (c.next.ensures.next (drop run.decided ps)
    (is_ahead (λ r. r.now) ps run.decided run.block c.patch_at-patch.result c.ahead.result
    c.patch_at-patch.ensures.some c.patch_at-patch.ensures.none c.ahead.ensures.some
    c.ahead.ensures.none)
    (rising_left ps run.decided c.requires.patches.rising) (begun run c.args.hand.now going)) in
    let first = next_first ps run.decided p is in
    let may = decides_this first next in
    rw (← first, take-append-drop run.decided ps) at
    (c.in_err-decide_next-in-Decide.ensures.goes _ _ base start _ _ may (rw first at going)))

pub returns-in_ok-decide_next-in-Decide-clause-goes : goal.returns-in_ok-decide_next-in-Decide-clause-goes
returns-in_ok-decide_next-in-Decide-clause-goes g c =
    let ps = c.args.patches.now in
    let run = c.args.run.now in
    let p = c.unwrap.result.now in
    let is = rw c.unwrap.ensures at c.patch_at-patch.ensures.some in
    λ base start going.
    let next = rw c.in-Decide.is at (c.next.ensures.next (drop run.decided ps)
    (is_ahead (λ r. r.now) ps run.decided run.block c.patch_at-patch.result c.ahead.result
    c.patch_at-patch.ensures.some c.patch_at-patch.ensures.none c.ahead.ensures.some
    c.ahead.ensures.none)
    (rising_left ps run.decided c.requires.patches.rising) (begun run c.args.hand.now going)) in
    let first = next_first ps run.decided p is in
    let may = decides_this first next in
    rw (c.in_ok-decide_next-in-Decide.ensures.decided, add-one, next_taken ps run.decided p is)
    (c.in_ok-decide_next-in-Decide.ensures.goes _ _ base start _ _ may (rw first at going))

pub returns-in_ok-decide_next-in-Decide-clause-known : goal.returns-in_ok-decide_next-in-Decide-clause-known
returns-in_ok-decide_next-in-Decide-clause-known g c =
    let ps = c.args.patches.now in
    let run = c.args.run.now in
    let p = c.unwrap.result.now in
    let is = rw c.unwrap.ensures at c.patch_at-patch.ensures.some in
    λ known. omega (arith, slice_get_within ps run.decided p is, c.in_ok-decide_next-in-Decide.ensures.decided)

pub returns-in_ok-decide_next-in-Decide-clause-nearer : goal.returns-in_ok-decide_next-in-Decide-clause-nearer
returns-in_ok-decide_next-in-Decide-clause-nearer g c =
    let ps = c.args.patches.now in
    let run = c.args.run.now in
    let p = c.unwrap.result.now in
    let is = rw c.unwrap.ensures at c.patch_at-patch.ensures.some in
    let inside = slice_get_within ps run.decided p is in
    omega (arith, c.in_ok-decide_next-in-Decide.ensures.nearer _ inside)

pub returns-in-End-clause-done : goal.returns-in-End-clause-done
returns-in-End-clause-done g c =
    let ps = c.args.patches.now in
    let run = c.args.run.now in
    λ same base start going.
    let next = rw c.in-End.is at (c.next.ensures.next (drop run.decided ps)
    (is_ahead (λ r. r.now) ps run.decided run.block c.patch_at-patch.result c.ahead.result
    c.patch_at-patch.ensures.some c.patch_at-patch.ensures.none c.ahead.ensures.some
    c.ahead.ensures.none)
    (rising_left ps run.decided c.requires.patches.rising) (begun run c.args.hand.now going)) in
    let ready = rw c.in-End.is at c.next.ensures.ready in
    record { empty = ready.0; closed = ready.1; all = none_left ps run.decided next }
