use Rattle.std.proofs.lemmas.Result.{err_from_is_err_and}
use Rattle.cd_report.proofs.AuditLemmas.{Audit-failed, Audit-visited}
use Rattle.cd_report.proofs.auditing.AuditorVisitor.visit.Goals as goal

pub returns-in_err-send_findings-clause-takes : goal.returns-in_err-send_findings-clause-takes
returns-in_err-send_findings-clause-takes g c =
    let failed = err_from_is_err_and c.from_residual.result c.from_residual.ensures.1 in
    rw failed.1
    (Audit-failed c.args.self.now.base c.args.self.now.tally c.args.sector.now
    (g.O.Sink.seen c.args.out.now) (g.O.Sink.seen c.send_findings.new.out) c.args.count
    c.requires.at.1
    c.findings_of-found.result c.findings_of-found.ensures c.in_err-send_findings.ensures.taken)

pub returns-clause-takes : goal.returns-clause-takes
returns-clause-takes g c =
    Audit-visited c.args.self.now.base c.args.self.now.tally c.args.sector.now
    (g.O.Sink.seen c.args.out.now) (g.O.Sink.seen c.send_findings.new.out) c.args.count
    c.requires.at.1
    c.findings_of-found.result c.findings_of-found.ensures _ c.with_sector-self.ensures
    c.in_ok-send_findings.ensures.taken
