-- The effect of `run_list` and `run_audit`, whatever the source and the sink are.
use Rattle.std.specs.Prelude.{◌≡◌, ◌≢◌, ℕ, ◌+◌, ◌==◌, ◌⊎◌, if◌then◌else◌, List, [], ◌++◌, Some}
use Rattle.cd_stream.specs.Stream.{Incoming, Outgoing}
use Rattle.cd_read.specs.Ends.{EndsWell, IsTooLong}
use Rattle.cd_read.specs.Printing.{CallThenLine}
use Rattle.cd_read.specs.Status.{done_status, failed_status, found_status}
use Rattle.cd_read.specs.declared.fault.Fault.TheVariants.{Write}
use Rattle.cd_report.specs.Report.{Reports, ReportSpec}
use Rattle.cd_report.specs.declared.auditing.AuditTally.{AuditTally}

-- what an audit ends with
abbrev pub audit_status : AuditTally → ℕ
audit_status tally = if tally.findings == 0 then done_status else found_status

-- if the bytes of the image and the sink are known: all of the image was read, its text was
-- appended to the sink, and the status is the status of its tally
abbrev pub PrintsText : {T : Type 0} → ReportSpec T → (T → ℕ) → Incoming → Incoming → Outgoing
    → Outgoing → ℕ → Type 0
PrintsText spec status_of image image' out out' status =
    (bytes earlier : List ℕ) → image.rest ≡ Some bytes → out.written ≡ Some earlier
    → (image'.rest ≡ Some []) × (out'.written ≡ Some (earlier ++ spec.text bytes))
    × (status ≡ status_of (spec.tally bytes))

-- `list` or `audit`: the report of the image, then the line for an error
pub record RunsReport {T : Type 0} (spec : ReportSpec T) (status_of : T → ℕ)
    (image image' : Incoming) (out out' : Outgoing) (status : ℕ) : Type 0 where
  pub runs : CallThenLine (λ middle answer. Reports spec image image' out middle answer) Write
      status_of out' status
  -- the result if nothing failed, and the conditions of a failure
  pub text : status ≢ failed_status → PrintsText spec status_of image image' out out' status
  pub ends_well : status ≢ failed_status → EndsWell image image' out out'
  pub flushed : status ≢ failed_status → out'.flushes ≡ out.flushes + 1
  pub failed : status ≡ failed_status → (image'.failures ≢ image.failures)
      ⊎ (out'.failures ≢ out.failures) ⊎ IsTooLong image image'
