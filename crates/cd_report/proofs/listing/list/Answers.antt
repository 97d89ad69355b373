use Rattle.std.proofs.Common.{refl, rules}
use Rattle.cd_read.proofs.EndLemmas.{by_end, by_length, ended, read_failed, too_long, write_failed}
use Rattle.cd_report.proofs.ListLemmas.{Listing-is}
use Rattle.cd_report.proofs.ReportLemmas.{Reports-ending, Reports-ends_well, Reports-same, Reports-text}
use Rattle.cd_report.proofs.listing.list.Goals as goal

pub returns : goal.returns
returns g c =
    let report = Reports-same (Listing-is c.args.base) c.scan.ensures in
    let ending = Reports-ending _ report in
    record {
      report = report;
      text = Reports-text _ report;
      ends_well = Reports-ends_well _ report;
      flushes = report.flushes;
      read_failed = read_failed _ ending;
      write_failed = write_failed _ ending;
      too_long = too_long _ ending;
      by_length = λ reads writes. by_length reads writes refl _ ending;
      ended = ended _ ending;
      by_end = λ reads writes. by_end reads writes refl _ ending;
    }

pub scan-requires-clause-start : goal.scan-requires-clause-start
scan-requires-clause-start g c = search rules
