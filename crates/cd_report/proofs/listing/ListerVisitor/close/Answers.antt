use Rattle.std.proofs.Common.{add-zero, ap, arith, rules, sym}
use Rattle.std.proofs.lemmas.Grind.{common_steps}
use Rattle.std.proofs.lemmas.Result.{err_from_is_err_and}
use Rattle.cd_report.proofs.ListLemmas.{list_end_is, tally_of}
use Rattle.cd_report.proofs.PassLemmas.{Finishes-at_flush, Finishes-at_last, Finishes-at_rest}
use Rattle.cd_report.proofs.listing.ListerVisitor.close.Goals as goal

pub returns-in_err-send_last-clause-text : goal.returns-in_err-send_last-clause-text
returns-in_err-send_last-clause-text g c =
    let failed = err_from_is_err_and c.from_residual.result c.from_residual.ensures.1 in
    let pass = c.args.self.now in
    rw (failed.1, ← list_end_is pass.base pass.run c.args.count c.args.tail)
    (Finishes-at_rest _ c.in_err-send_last.ensures)

pub returns-in_err-send_end-clause-text : goal.returns-in_err-send_end-clause-text
returns-in_err-send_end-clause-text g c =
    let failed =
    err_from_is_err_and c.from_residual-in_err-send_end.result
    c.from_residual-in_err-send_end.ensures.1 in
    let pass = c.args.self.now in
    let line = c.in_ok-send_last.ensures in
    rw (failed.1, ← list_end_is pass.base pass.run c.args.count c.args.tail)
    (Finishes-at_last line.taken line.flushes c.in_err-send_end.ensures)

pub returns-in_err-finish-clause-text : goal.returns-in_err-finish-clause-text
returns-in_err-finish-clause-text g c =
    let failed =
    err_from_is_err_and c.from_residual-in_err-finish.result
    c.from_residual-in_err-finish.ensures.1 in
    let pass = c.args.self.now in
    rw (failed.1, ← list_end_is pass.base pass.run c.args.count c.args.tail)
    (Finishes-at_flush c.in_ok-send_last.ensures.taken c.in_ok-send_end.ensures.taken
    c.in_err-finish.ensures)

pub returns-clause-text : goal.returns-clause-text
returns-clause-text g c = grind (arith, common_steps)

pub returns-clause-tally : goal.returns-clause-tally
returns-clause-tally g c = ap (λ n. tally_of n c.args.tail) (sym (add-zero c.args.count))

pub returns-clause-count : goal.returns-clause-count
returns-clause-count g c = search rules
