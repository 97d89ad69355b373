-- The program's actions for a job: which files it asks for, by which names and in which order, and
-- its use of them.
use Rattle.std.specs.Prelude.{◌≡◌, ◌≢◌, ℕ, ◌≤◌, ◌⊎◌, List, [], Option, None, Result, Ok, Err, codes, false, if◌then◌else◌, is_some, true}
use Rattle.cd_args.specs.CommandLine.{IsAccepted, IsJobOf}
use Rattle.cd_args.specs.Fault.{HasKindOf, asks_for_help, error_kinds, printed}
use Rattle.cd_read.specs.Status.{done_status, failed_status}
use Rattle.cd_args.specs.declared.fault.LineFault.{LineFault}
use Rattle.cd_args.specs.declared.fault.LineFault.TheVariants as line_fault
use Rattle.cd_args.specs.declared.job.Job.{Job}
use Rattle.cd_report.specs.AuditText.{audit_report}
use Rattle.cd_report.specs.ListText.{list_report}
use Rattle.cd_report.specs.Report.{ReportSpec}
use Rattle.cd_script.specs.Order.{order}
use Rattle.cd_script.specs.Script.{script}
use Rattle.cd_script.specs.declared.fault.ScriptFault.{ScriptFault}
use Rattle.cd_script.specs.PatchForm.{Patch}
use Rattle.cd_stream.specs.Stream.{Incoming, Outgoing}
use Rattle.cd_stream.specs.Transfer.{Flushes, Gives}
use Rattle.cd_stream.specs.declared.sink.SinkFailed.{SinkFailed}
use Rattle.cd_host.specs.Hosting.{Hosting}
use Rattle.cd_host.specs.Messages.{load_fault_line, no_script}
use Rattle.cd_program.specs.Messages.{no_image, no_output, open_fault_line}
use Rattle.cd_run.specs.Messages.{script_fault_line}
use Rattle.cd_read.specs.Printing.{PrintsLine, PrintsAndFails}
use Rattle.cd_report.specs.Running.{audit_status, RunsReport}
use Rattle.cd_image.specs.Running.{RunsApply, RunsCheck}
use Rattle.cd_host.specs.ScriptLines.{IsFaultOf, ReadsWhole, StopsLoading}
use Rattle.cd_host.specs.declared.host.OpenFault.{OpenFault}
use Rattle.cd_host.specs.declared.script.LoadFault.{LoadFault}
use Rattle.cd_args.specs.Options.{base_in, task_of}
use Rattle.cd_sector.specs.Image.{base_limit}
use Rattle.cd_args.specs.Task.{Task}
use Rattle.cd_args.specs.declared.settings.Settings.{Settings}

-- ---- scripts

-- all of the file was read and is a script, and nothing was printed; or a line was printed, for an
-- error of the file or of its text
abbrev pub ReadsScript : Incoming → Incoming → Outgoing → Outgoing → Result (List Patch) ℕ → Type 0
ReadsScript file file' log log' (Ok patches) =
    (text : List ℕ) × Gives file file' text × ReadsWhole text file file'
    × ((ps : List Patch) × (script text ≡ Ok ps) × (patches ≡ order ps)) × (log' ≡ log)
ReadsScript file file' log log' (Err status) =
    ((read : List ℕ) × Gives file file' read
    × ((fault : LoadFault) × StopsLoading fault read file file'
    × PrintsAndFails (load_fault_line fault) log log' status))
    ⊎ ((text : List ℕ) × Gives file file' text × ReadsWhole text file file'
    × ((fault : ScriptFault) × IsFaultOf text fault
    × PrintsAndFails (script_fault_line fault) log log' status))

-- ---- which files are there

module _ {H I O : Type 0} (on : Hosting H I O) where
  -- an image is asked for by its name: `-` means the standard input, and every other name a file
  pub record TakesImage (name : List ℕ) (host : H) (answer : Result I OpenFault) (host' : H)
      : Type 0 where
    pub standard : name ≡ codes "-" → on.gives_standard_input host answer host'
    pub file : name ≢ codes "-" → on.gives_input host name answer host'

module _ {H I O : Type 0} (come : I → Incoming) (on : Hosting H I O) where
  -- the result of reading a script's file, or that it could not be opened
  abbrev pub ComesOfFile : Outgoing → Outgoing → Result (List Patch) ℕ → Result I OpenFault → Type 0
  ComesOfFile log log' result (Ok file) =
      (left : I) × ReadsScript (come file) (come left) log log' result
  ComesOfFile log log' result (Err fault) =
      (result ≡ Err failed_status) × PrintsLine (open_fault_line no_script fault) log log'

  -- the script in the file of this name
  pub record TakesScript (name : List ℕ) (host host' : H) (log log' : Outgoing)
      (result : Result (List Patch) ℕ) : Type 0 where
    pub answer : Result I OpenFault
    pub asked : on.gives_input host name answer host'
    pub comes : ComesOfFile log log' result answer

-- a file that is finished, or of which a call has failed, is left as it is; any other file is
-- flushed once
pub record FlushesRest (before after : Outgoing) : Type 0 where
  pub idle : (before.finished ≡ true) ⊎ (before.failures ≢ 0) → after ≡ before
  pub once : before.finished ≡ false → before.failures ≡ 0
      → (flushed : Result (Unit {0}) SinkFailed) × Flushes before after flushed

-- ---- the commands

-- A command asks for its files one after the other. It has one ending for each file that is not
-- there: the line for that file is printed, and nothing more is asked of the host. It has one
-- ending if all files are there. The host, the log, and the status are those at the end.
module _ {H I O : Type 0} (come : I → Incoming) (gone : O → Outgoing) (on : Hosting H I O)
    (host' : H) (after : Outgoing) (status : ℕ) where
  -- the script could not be read: its line was printed, and nothing more was asked for
  abbrev pub NoScript : List ℕ → H → Outgoing → Type 0
  NoScript name host before = TakesScript come on name host host' before after (Err status)

  -- the image is not there: its line was printed, and nothing more was asked for
  abbrev pub NoImage : List ℕ → H → Outgoing → Type 0
  NoImage name host before =
      (fault : OpenFault) × TakesImage on name host (Err fault) host'
      × PrintsAndFails (open_fault_line no_image fault) before after status

  -- the new file was not made: its line was printed
  abbrev pub NoOutput : List ℕ → H → Outgoing → Type 0
  NoOutput path host before =
      (fault : OpenFault) × on.gives_output host path (Err fault) host'
      × PrintsAndFails (open_fault_line no_output fault) before after status

  -- `apply`: the patched image was written to the new file, the bytes that the file still held were
  -- passed on, and the host has it back
  pub record AppliesImage (settings : Settings) (patches : List Patch) (before : Outgoing)
      (image : I) (host : H) (path : List ℕ) (out : O) : Type 0 where
    pub left : I
    pub made : O
    pub applies : RunsApply settings.carry patches settings.base (come image) (come left) (gone out)
        (gone made) before after status
    pub last : O
    pub rest : FlushesRest (gone made) (gone last)
    pub back : on.takes_back host path last host'

  -- `list` and `audit`; `left` is the state of the image after the call
  pub data DoesReport {T : Type 0} (spec : ReportSpec T) (status_of_tally : T → ℕ) (name : List ℕ)
      (host : H) (before : Outgoing) : Type 0 where
    without_image : NoImage name host before → DoesReport spec status_of_tally name host before
    reported : (image left : I) → TakesImage on name host (Ok image) host'
        → RunsReport spec status_of_tally (come image) (come left) before after status
        → DoesReport spec status_of_tally name host before

  -- `check`, which makes no output
  pub data DoesCheck (settings : Settings) (name script : List ℕ) (host : H)
      (before : Outgoing) : Type 0 where
    without_script : NoScript script host before → DoesCheck settings name script host before
    without_image : (patches : List Patch) (second : H) (printed_log : Outgoing)
        → TakesScript come on script host second before printed_log (Ok patches)
        → NoImage name second printed_log → DoesCheck settings name script host before
    checked : (patches : List Patch) (second : H) (printed_log : Outgoing)
        → TakesScript come on script host second before printed_log (Ok patches)
        → (image left : I) → TakesImage on name second (Ok image) host'
        → RunsCheck settings.carry patches settings.base (come image) (come left) printed_log after
        status
        → DoesCheck settings name script host before

  -- `apply`
  pub data DoesApply (settings : Settings) (name script path : List ℕ) (host : H)
      (before : Outgoing) : Type 0 where
    without_script : NoScript script host before → DoesApply settings name script path host before
    without_image : (patches : List Patch) (second : H) (printed_log : Outgoing)
        → TakesScript come on script host second before printed_log (Ok patches)
        → NoImage name second printed_log → DoesApply settings name script path host before
    without_output : (patches : List Patch) (second : H) (printed_log : Outgoing)
        → TakesScript come on script host second before printed_log (Ok patches)
        → (image : I) (third : H) → TakesImage on name second (Ok image) third
        → NoOutput path third printed_log → DoesApply settings name script path host before
    applied : (patches : List Patch) (second : H) (printed_log : Outgoing)
        → TakesScript come on script host second before printed_log (Ok patches)
        → (image : I) (third : H) → TakesImage on name second (Ok image) third
        → (out : O) (fourth : H) → on.gives_output third path (Ok out) fourth
        → AppliesImage settings patches printed_log image fourth path out
        → DoesApply settings name script path host before

-- ---- jobs and arguments

-- each task runs the command of its name, with its file names and settings: the script is read
-- first, then the image is asked for, and then the output is made
abbrev pub RunsTask : {H I O : Type 0} → (I → Incoming) → (O → Outgoing) → Hosting H I O → Task
    → H → H → Outgoing → Outgoing → ℕ → Type 0
RunsTask come gone on (Task.list base image) host host' before after status =
    DoesReport come gone on host' after status (list_report base) (λ _. done_status) image host
    before
RunsTask come gone on (Task.audit base image) host host' before after status =
    DoesReport come gone on host' after status (audit_report base) audit_status image host before
RunsTask come gone on (Task.check settings image script) host host' before after status =
    DoesCheck come gone on host' after status settings image script host before
RunsTask come gone on (Task.apply settings image script out) host host' before after status =
    DoesApply come gone on host' after status settings image script out host before

-- a job does its task
abbrev pub RunsJob : {H I O : Type 0} → (I → Incoming) → (O → Outgoing) → Hosting H I O → Job
    → H → H → Outgoing → Outgoing → ℕ → Type 0
RunsJob come gone on job host host' before after status =
    RunsTask come gone on (task_of job) host host' before after status

-- the status for arguments that ask for no job: a request for help is not an error
abbrev pub fault_status : LineFault → ℕ
fault_status fault = if asks_for_help fault then done_status else failed_status

-- the status after printing: that of the arguments if their text was printed, else that of an error
abbrev pub printed_status : LineFault → Option (List ℕ) → ℕ
printed_status fault text = if is_some text then fault_status fault else failed_status

-- the text printed for arguments that ask for no job: the parser's text, or the line for a lack of
-- memory. A text that was written only in part is a failure
pub record PrintsFault (fault : LineFault) (before after : Outgoing) (status : ℕ) : Type 0 where
  pub text : Option (List ℕ)
  pub memory : fault ≡ line_fault.NoMemory → text ≡ None
  pub says : PrintsLine (printed text) before after
  pub whole : after.failures ≡ before.failures → status ≡ printed_status fault text
  pub cut : after.failures ≢ before.failures → status ≡ failed_status

-- the arguments ask for no job: nothing is asked of the host, and the reason is printed
pub record RefusesArgs {H : Type 0} (args : List (List ℕ)) (host host' : H)
    (before after : Outgoing)
    (status : ℕ) : Type 0 where
  pub unchanged : host' ≡ host
  pub fault : LineFault
  pub kind : HasKindOf args fault
  pub memory : IsAccepted args → fault ≡ line_fault.NoMemory
  pub done : PrintsFault fault before after status

-- the arguments ask for a job, without an error, without asking for help, and with a base that has
-- an address, and the job is done; or they ask for no job
abbrev pub RunsArgs : {H I O : Type 0} → (I → Incoming) → (O → Outgoing) → Hosting H I O
    → List (List ℕ) → H → H → Outgoing → Outgoing → ℕ → Type 0
RunsArgs come gone on args host host' before after status =
    ((job : Job) × IsJobOf args job × (error_kinds args ≡ []) × (base_in job ≤ base_limit)
    × RunsJob come gone on job host host' before after status)
    ⊎ RefusesArgs args host host' before after status
