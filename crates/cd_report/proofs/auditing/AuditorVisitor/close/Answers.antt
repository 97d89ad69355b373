use Rattle.std.proofs.Common.{rules, refl}
use Rattle.std.proofs.lemmas.Result.{err_from_is_err_and}
use Rattle.cd_stream.proofs.TransferLemmas.{Takes-nil}
use Rattle.cd_report.proofs.AuditLemmas.{audit_end_is}
use Rattle.cd_report.proofs.PassLemmas.{Finishes-at_flush, Finishes-at_last}
use Rattle.cd_report.proofs.auditing.AuditorVisitor.close.Goals as goal

pub returns-in_err-send_end-clause-text : goal.returns-in_err-send_end-clause-text
returns-in_err-send_end-clause-text g c =
    let failed = err_from_is_err_and c.from_residual.result c.from_residual.ensures.1 in
    rw (failed.1, audit_end_is c.args.self.now.tally)
    (Finishes-at_last (Takes-nil _) refl c.in_err-send_end.ensures)

pub returns-in_err-finish-clause-text : goal.returns-in_err-finish-clause-text
returns-in_err-finish-clause-text g c =
    let failed =
    err_from_is_err_and c.from_residual-in_err-finish.result
    c.from_residual-in_err-finish.ensures.1 in
    rw (failed.1, audit_end_is c.args.self.now.tally)
    (Finishes-at_flush (Takes-nil _) c.in_ok-send_end.ensures.taken c.in_err-finish.ensures)

pub returns-clause-text : goal.returns-clause-text
returns-clause-text g c = search rules

pub returns-clause-count : goal.returns-clause-count
returns-clause-count g c = search rules
