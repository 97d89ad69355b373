use Rattle.cd_report.proofs.ListLemmas.{List-visits}
use Rattle.cd_report.proofs.listing.ListerVisitor.visit.Goals as goal

pub returns-clause-takes : goal.returns-clause-takes
returns-clause-takes g c =
    List-visits c.args.self.now.base c.args.self.now.run c.args.count c.args.sector.now
    (g.O.Sink.seen c.args.out.now) (g.O.Sink.seen c.extend_run.new.out) c.extend_run.new.run
    c.extend_run.result
    (rw c.kind.ensures at c.extend_run.ensures.text)
