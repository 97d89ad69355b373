-- The status is 0, 1, or 2.
use Rattle.std.proofs.Common.{◌≡◌, ℕ, ◌≤◌, ◌==◌, Bool, true, false, cond, List, Result, Ok, Err, inl, inr, arith}
use Rattle.std.specs.Prelude.{Option, Some, None}
use Rattle.cd_program.specs.Program.{printed_status, ComesOfFile, DoesApply, DoesCheck, DoesReport, NoScript, PrintsFault, ReadsScript, RunsJob, RunsTask}
use Rattle.cd_args.specs.Fault.{asks_for_help}
use Rattle.cd_args.specs.declared.fault.LineFault.{LineFault}
use Rattle.cd_args.specs.declared.job.Job.{Job}
use Rattle.cd_args.specs.Options.{task_of}
use Rattle.cd_args.specs.Task.{Task}
use Rattle.cd_image.specs.declared.patch_log.Tally.{Tally}
use Rattle.cd_report.specs.Report.{ReportSpec}
use Rattle.cd_report.specs.declared.auditing.AuditTally.{AuditTally}
use Rattle.cd_read.specs.declared.fault.Fault.{Fault}
use Rattle.cd_stream.specs.Stream.{Incoming, Outgoing}
use Rattle.cd_stream.specs.Transfer.{Counts}
use Rattle.cd_stream.specs.declared.sink.SinkFailed.{SinkFailed}
use Rattle.cd_host.specs.Hosting.{Hosting}
use Rattle.cd_read.specs.Printing.{CallThenLine, Ends}
use Rattle.cd_report.specs.Running.{audit_status}
use Rattle.cd_image.specs.Running.{script_status}
use Rattle.cd_host.specs.declared.host.OpenFault.{OpenFault}
use Rattle.cd_args.specs.declared.settings.Settings.{Settings}
use Rattle.cd_read.proofs.PrintingLemmas.{one-more}

-- ---- a call and its end

few-if : (b : Bool) → cond b 0 1 ≤ 2
few-if true = omega arith
few-if false = omega arith

few-audit : (tally : AuditTally) → audit_status tally ≤ 2
few-audit tally = few-if (tally.findings == 0)

few-script : (tally : Tally) → script_status tally ≤ 2
few-script tally = few-if (tally.refused == 0)

Ends-few : {T : Type 0} (own : Fault) (status_of : T → ℕ) (result : Result T Fault)
    (before after : Outgoing) (status : ℕ)
    → ((reported : T) → status_of reported ≤ 2) → Ends own status_of result before after status → status ≤ 2
Ends-few own status_of (Ok reported) before after status few ends = rw ends.1 (few reported)
Ends-few own status_of (Err fault) before after status few ends = omega (arith, ends.1)

Runs-few : {T : Type 0} {Does : Outgoing → Result T Fault → Type 0} {own : Fault}
    {status_of : T → ℕ} {after : Outgoing} {status : ℕ}
    → ((reported : T) → status_of reported ≤ 2) → CallThenLine Does own status_of after status → status ≤ 2
Runs-few few runs = Ends-few _ _ runs.result runs.middle _ _ few runs.ends

-- ---- commands

ReadsScript-few : (file file' : Incoming) (log log' : Outgoing) (status : ℕ)
    → ReadsScript file file' log log' (Err status) → status ≤ 2
ReadsScript-few file file' log log' status (inl h) = omega (arith, h.2.2.1)
ReadsScript-few file file' log log' status (inr h) = omega (arith, h.3.2.1)

module _ {H I O : Type 0} (come : I → Incoming) (on : Hosting H I O) where
  ComesOfFile-few : (log log' : Outgoing) (status : ℕ) (answer : Result I OpenFault)
      → ComesOfFile come on log log' (Err status) answer → status ≤ 2
  ComesOfFile-few log log' status (Ok file) h = ReadsScript-few _ _ log log' status h.1
  ComesOfFile-few log log' status (Err fault) h = let is : status ≡ 2 = cc in omega (arith, is)

module _ {H I O : Type 0} (come : I → Incoming) (gone : O → Outgoing) (on : Hosting H I O)
    {host' : H} {after : Outgoing} {status : ℕ} where
  NoScript-few : {name : List ℕ} {host : H} {before : Outgoing}
      → NoScript come gone on host' after status name host before → status ≤ 2
  NoScript-few {before = before} missing =
      ComesOfFile-few come on before after status missing.answer missing.comes

  DoesReport-few : {T : Type 0} {spec : ReportSpec T} {status_of : T → ℕ} {name : List ℕ} {host : H}
      {before : Outgoing}
      → ((reported : T) → status_of reported ≤ 2)
      → DoesReport come gone on host' after status spec status_of name host before → status ≤ 2
  DoesReport-few few (DoesReport.without_image missing) = omega (arith, missing.2.1)
  DoesReport-few few (DoesReport.reported image left asked done) = Runs-few few done.runs

  DoesCheck-few : {settings : Settings} {name script : List ℕ} {host : H} {before : Outgoing}
      → DoesCheck come gone on host' after status settings name script host before → status ≤ 2
  DoesCheck-few (DoesCheck.without_script missing) = NoScript-few missing
  DoesCheck-few (DoesCheck.without_image patches second printed_log takes missing) =
      omega (arith, missing.2.1)
  DoesCheck-few (DoesCheck.checked patches second printed_log takes image left asked checks) =
      Runs-few few-script checks.runs

  DoesApply-few : {settings : Settings} {name script path : List ℕ} {host : H} {before : Outgoing}
      → DoesApply come gone on host' after status settings name script path host before → status ≤ 2
  DoesApply-few (DoesApply.without_script missing) = NoScript-few missing
  DoesApply-few (DoesApply.without_image patches second printed_log takes missing) =
      omega (arith, missing.2.1)
  DoesApply-few (DoesApply.without_output patches second printed_log takes image third asked missing) =
      omega (arith, missing.2.1)
  DoesApply-few
      (DoesApply.applied patches second printed_log takes image third asked out fourth made done) =
      Runs-few few-script done.applies.runs

RunsTask-few : {H I O : Type 0} (come : I → Incoming) (gone : O → Outgoing) (on : Hosting H I O)
    (task : Task) (host host' : H) (before after : Outgoing) (status : ℕ)
    → RunsTask come gone on task host host' before after status → status ≤ 2
RunsTask-few come gone on (Task.list base image) host host' before after status does =
    DoesReport-few come gone on (λ reported. few-if true) does
RunsTask-few come gone on (Task.audit base image) host host' before after status does =
    DoesReport-few come gone on few-audit does
RunsTask-few come gone on (Task.check settings image script) host host' before after status does =
    DoesCheck-few come gone on does
RunsTask-few come gone on (Task.apply settings image script out) host host' before after status
    does =
    DoesApply-few come gone on does

pub RunsJob-few : {H I O : Type 0} (come : I → Incoming) (gone : O → Outgoing) (on : Hosting H I O)
    (job : Job) (host host' : H) (before after : Outgoing) (status : ℕ)
    → RunsJob come gone on job host host' before after status → status ≤ 2
RunsJob-few come gone on job = RunsTask-few come gone on (task_of job)

-- ---- arguments that ask for no job

few-help : (b : Bool) → cond b 0 2 ≤ 2
few-help true = omega arith
few-help false = omega arith

few-refused : (fault : LineFault) (text : Option (List ℕ)) → printed_status fault text ≤ 2
few-refused fault (Some text) = few-help (asks_for_help fault)
few-refused fault None = omega arith

pub PrintsFault-few : (fault : LineFault) (before after : Outgoing) (status : ℕ)
    → PrintsFault fault before after status → status ≤ 2
PrintsFault-few fault before after status done = go done.says.answer done.says.count
  where
    go : (answer : Result (Unit {0}) SinkFailed) → Counts before.failures after.failures answer
        → status ≤ 2
    go (Ok x) same = rw (done.whole same) (few-refused fault done.text)
    go (Err e) more = let is = done.cut (one-more more) in omega (arith, is)
