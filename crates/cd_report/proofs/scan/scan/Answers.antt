use Rattle.std.proofs.Common.{arith}
use Rattle.std.proofs.lemmas.Result.{err_from_is_err_and}
use Rattle.cd_report.proofs.ScanLemmas.{ScanInvariant-end, ScanInvariant-end_failed, ScanInvariant-next, ScanInvariant-start, ScanInvariant-unread, ScanInvariant-write}
use Rattle.cd_report.proofs.scan.scan.Goals as goal

pub loop-visitor-init : goal.loop-visitor-init
loop-visitor-init g c =
    record {
      reported = ScanInvariant-start _ _ _ c.requires.nothing_due;
      at = c.requires.start;
      few = omega arith;
    }

pub returns-in_err-read_sector : goal.returns-in_err-read_sector
returns-in_err-read_sector g c =
    let failed = err_from_is_err_and c.from_residual.result c.from_residual.ensures.1 in
    rw (failed.1, failed.2)
    (ScanInvariant-unread c.loop-visitor.invariant.reported c.read_sector.new.sector _
    c.in_err-read_sector.ensures)

pub returns-in_err-visit-in-None : goal.returns-in_err-visit-in-None
returns-in_err-visit-in-None g c =
    let failed =
    err_from_is_err_and c.from_residual-in_err-visit-in-None.result
    c.from_residual-in_err-visit-in-None.ensures.1 in
    let visit = c.in_err-visit-in-None.ensures in
    rw (failed.1, failed.2)
    (ScanInvariant-write c.loop-visitor.invariant.reported
    (rw c.in-None.is at c.in_ok-read_sector.ensures) visit.takes visit.flushes visit.count)

pub loop-visitor-preserved : goal.loop-visitor-preserved
loop-visitor-preserved g c =
    let came = rw c.in-None.is at c.in_ok-read_sector.ensures in
    let visit = c.in_ok-visit-in-None.ensures in
    record {
      reported =
          ScanInvariant-next c.loop-visitor.invariant.reported came visit.takes visit.flushes
          visit.count;
      at = visit.at;
      few = omega (arith, came.few);
    }

pub returns-in_err-close-in-Some : goal.returns-in_err-close-in-Some
returns-in_err-close-in-Some g c =
    let failed =
    err_from_is_err_and c.from_residual-in_err-close-in-Some.result
    c.from_residual-in_err-close-in-Some.ensures.1 in
    let close = c.in_err-close-in-Some.ensures in
    rw (failed.1, failed.2)
    (ScanInvariant-end_failed c.loop-visitor.invariant.reported
    (rw c.in-Some.is at c.in_ok-read_sector.ensures) close.text close.flushes close.count)

pub returns-in-Some : goal.returns-in-Some
returns-in-Some g c =
    let close = c.in_ok-close-in-Some.ensures in
    ScanInvariant-end c.loop-visitor.invariant.reported
    (rw c.in-Some.is at c.in_ok-read_sector.ensures) close.tally close.text close.flushes
    close.count
