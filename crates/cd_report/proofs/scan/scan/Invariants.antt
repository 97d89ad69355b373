use Rattle.std.proofs.Common.{◌-◌, ◌≤◌}
use Rattle.cd_report.proofs.ScanLemmas.{ScanInvariant}
use Rattle.cd_report.proofs.scan.scan.Given as goal
use Rattle.cd_sector.specs.Image.{sector_limit}

abbrev pub invariant-loop-visitor : goal.invariant-loop-visitor
invariant-loop-visitor g l = record {
  reported : ScanInvariant (g.T.Visitor.remaining l.fn.visitor 0) (g.T.Visitor.remaining l.visitor l.count)
      (g.I.Source.seen l.fn.image) (g.I.Source.seen l.image) (g.O.Sink.seen l.fn.out)
      (g.O.Sink.seen l.out) l.count;
  at : g.T.Visitor.has_visited l.visitor l.count;
  few : l.count ≤ sector_limit;
}

abbrev pub decreases-loop-visitor : goal.decreases-loop-visitor
decreases-loop-visitor g l = sector_limit - l.count
