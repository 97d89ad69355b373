-- The effect of a report, in plain clauses.
use Rattle.std.proofs.Common.{◌≡◌, ◌++◌, Some, Result, Ok, Err, IfOk, OnOk, ap, ◌∙◌, arith}
use Rattle.cd_read.specs.Ends.{EndsWell}
use Rattle.cd_read.specs.declared.fault.Fault.{Fault}
use Rattle.cd_read.specs.declared.fault.Fault.TheVariants.{Log, Read, TooLong, Write}
use Rattle.cd_read.proofs.general.KnownBytes.{appended, consumed_all}
use Rattle.cd_read.proofs.EndLemmas.{Ending, EndsBy}
use Rattle.cd_report.specs.Report.{Reports, ReportSpec, WritesText}
use Rattle.cd_stream.specs.Stream.{Incoming, Outgoing}

-- `Reports` for an equal specification
pub Reports-same : {T : Type 0} {a b : ReportSpec T} {image image' : Incoming}
    {out out' : Outgoing} {result : Result T Fault} → a ≡ b
    → Reports a image image' out out' result → Reports b image image' out out' result
Reports-same is report = rw is at report

module _ {T : Type 0} {spec : ReportSpec T} {image image' : Incoming} {out out' : Outgoing} where
  pub Reports-text : (result : Result T Fault) → Reports spec image image' out out' result
      → IfOk result (WritesText spec image image' out out')
  Reports-text (Ok reported) report = λ bytes earlier gives holds.
      let all =
      consumed_all _ image'.rest report.read _ report.gives.consumes report.answers.at_end
      gives in (
        all.0,
        appended _ out'.written report.sent _ report.takes.appends holds
            ∙ ap (λ l. Some (earlier ++ l)) (report.answers.whole_sent ∙ ap spec.text all.1),
        report.answers.tally_right ∙ ap spec.tally all.1,
      )
  Reports-text (Err fault) report = tt

  pub Reports-ends_well : (result : Result T Fault) → Reports spec image image' out out' result
      → OnOk result (EndsWell image image' out out')
  Reports-ends_well (Ok reported) report =
      record {
        reads = report.answers.reads;
        writes = report.answers.writes;
        finished = report.answers.finished;
      }
  Reports-ends_well (Err fault) report = tt

  -- the end of the call, by its result; the call has no log
  ends_by : (result : Result T Fault) (report : Reports spec image image' out out' result)
      → EndsBy report.read image image' out.failures out'.failures 0 0 result
  ends_by (Ok reported) report =
      let a = report.answers in (omega (arith, a.reads, a.writes), a.within, a.at_end, a.ended)
  ends_by (Err Read) report =
      let a = report.answers in (omega (arith, a.reads, a.writes), a.within)
  ends_by (Err Write) report =
      let a = report.answers in (omega (arith, a.reads, a.writes), a.within)
  ends_by (Err Log) report = absurd report.answers
  ends_by (Err TooLong) report =
      let a = report.answers in
      (omega (arith, a.reads, a.writes), omega (arith, a.beyond), a.unended)

  pub Reports-ending : (result : Result T Fault) → Reports spec image image' out out' result
      → Ending image image' out.failures out'.failures 0 0 result
  Reports-ending result report =
      record { read = report.read; consumes = report.gives.consumes; by = ends_by result report }
