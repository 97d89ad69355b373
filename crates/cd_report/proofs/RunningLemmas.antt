-- The contracts of `run_list` and `run_audit`.
use Rattle.std.proofs.Common.{◌≡◌, ◌≢◌, ◌⊎◌, ℕ, Ok, Err, refl, ap, ◌∙◌, inl, inr}
use Rattle.cd_stream.specs.Stream.{Incoming, Outgoing}
use Rattle.cd_read.specs.Ends.{IsTooLong}
use Rattle.cd_read.specs.Printing.{PrintsFaultLine}
use Rattle.cd_read.specs.Status.{failed_status}
use Rattle.cd_read.specs.declared.fault.Fault.{Fault}
use Rattle.cd_read.specs.declared.fault.Fault.TheVariants.{Log, Read, TooLong, Write}
use Rattle.cd_read.proofs.PrintingLemmas.{is-too-long, one-more}
use Rattle.cd_report.specs.Report.{Reports, ReportSpec}
use Rattle.cd_report.specs.Running.{RunsReport}
use Rattle.cd_report.proofs.ReportLemmas.{Reports-ending, Reports-ends_well, Reports-text}

module _ {T : Type 0} {spec : ReportSpec T} {status_of : T → ℕ} {image image' : Incoming}
    {out out' : Outgoing} {status : ℕ} where
  pub RunsReport-done : (tally : T) → Reports spec image image' out out' (Ok tally)
      → status ≡ status_of tally → status ≢ failed_status
      → RunsReport spec status_of image image' out out' status
  RunsReport-done tally report is done = record {
    runs = record { result = Ok tally; middle = out'; does = report; ends = (refl, is) };
    text = λ _ bytes earlier gives holds.
        let printed = Reports-text (Ok tally) report bytes earlier gives holds in
        (printed.0, printed.1, is ∙ ap status_of printed.2);
    ends_well = λ _. Reports-ends_well (Ok tally) report;
    flushed = λ _. report.flushes;
    failed = λ failed. absurd (done failed);
  }

  pub RunsReport-failed : {middle : Outgoing} (fault : Fault)
      → Reports spec image image' out middle (Err fault) → PrintsFaultLine Write fault middle out'
      → status ≡ failed_status → RunsReport spec status_of image image' out out' status
  RunsReport-failed {middle = middle} fault report line is = record {
    runs = record { result = Err fault; middle = middle; does = report; ends = (line, is) };
    text = λ done. absurd (done is);
    ends_well = λ done. absurd (done is);
    flushed = λ done. absurd (done is);
    failed = λ _. shows fault report line;
  }
    where
      shows : (fault : Fault) → Reports spec image image' out middle (Err fault)
          → PrintsFaultLine Write fault middle out'
          → (image'.failures ≢ image.failures) ⊎ (out'.failures ≢ out.failures)
          ⊎ IsTooLong image image'
      shows Read report line = inl (one-more report.answers.reads)
      shows Write report line =
          inr (inl (one-more (ap (λ o. o.failures) (line.0 refl) ∙ report.answers.writes)))
      shows Log report line = absurd report.answers
      shows TooLong report line = inr (inr (is-too-long (Reports-ending _ report)))
