-- The result of the program over files in memory: its status, its text, and the new file.
use Rattle.std.specs.Prelude.{◌≡◌, ◌≢◌, ℕ, ◌+◌, ◌<◌, ◌≤◌, ◌⊎◌, Bool, true, false, List, [], ◌∷◌, ◌++◌, length, take}
use Rattle.std.specs.Prelude.{codes, if◌then◌else◌, Option, None, Some, Ok, Err}
use Rattle.std.specs.Str.{bytes_eq}
use Rattle.cd_args.specs.CommandLine.{IsAccepted, IsJobOf}
use Rattle.cd_args.specs.Fault.{HasKindOf, error_kinds, no_memory, printed}
use Rattle.cd_program.specs.Program.{printed_status}
use Rattle.cd_read.specs.Status.{done_status, failed_status}
use Rattle.cd_args.specs.declared.fault.LineFault.{LineFault}
use Rattle.cd_args.specs.declared.fault.LineFault.TheVariants as line_fault
use Rattle.cd_args.specs.declared.job.Job.{Job}
use Rattle.cd_args.specs.Options.{task_of}
use Rattle.cd_args.specs.Task.{Task}
use Rattle.cd_script.specs.Limits.{text_limit}
use Rattle.cd_script.specs.Order.{order}
use Rattle.cd_script.specs.Script.{script}
use Rattle.cd_script.specs.declared.fault.ScriptFault.{ScriptFault}
use Rattle.cd_script.specs.declared.fault.ScriptFault.TheVariants as script_fault
use Rattle.cd_script.specs.PatchForm.{Patch}
use Rattle.cd_patch.specs.declared.outcome.Outcome.{Outcome}
use Rattle.cd_sector.specs.Image.{image_limit}
use Rattle.cd_read.specs.declared.fault.Fault.TheVariants.{TooLong, Write}
use Rattle.cd_stream.specs.Stream.{IsBeginning}
use Rattle.cd_report.specs.AuditText.{audit_report}
use Rattle.cd_report.specs.Lines.{text_of}
use Rattle.cd_report.specs.ListText.{list_report}
use Rattle.cd_report.specs.Report.{ReportSpec}
use Rattle.cd_image.specs.Applying.{Begins, patch_tally}
use Rattle.cd_run.specs.InHand.{bytes_in_hand}
use Rattle.cd_run.specs.PatchLog.{log_text, log_when_out_fails, log_when_too_long, sent_when_log_fails, sent_when_too_long}
use Rattle.cd_run.specs.Patched.{EachPatching, IsPatched}
use Rattle.cd_read.specs.Messages.{fault_line}
use Rattle.cd_host.specs.Messages.{load_fault_line, no_script}
use Rattle.cd_program.specs.Messages.{no_image, no_output}
use Rattle.cd_run.specs.Messages.{script_fault_line}
use Rattle.cd_report.specs.Running.{audit_status}
use Rattle.cd_image.specs.Running.{script_status}
use Rattle.cd_host.specs.declared.script.LoadFault.TheVariants as load_fault
use Rattle.cd_args.specs.declared.settings.Settings.{Settings}
use Rattle.cd_memory.specs.Files.{NamedFile, file_bytes, named_file}
use Rattle.cd_memory.specs.declared.run.Ended.{Ended}

-- ---- before and after

-- the files and the standard input
pub record Environment : Type 0 where
  pub files : List NamedFile
  pub input : List ℕ

-- a record of the two
abbrev pub environment : List NamedFile → List ℕ → Environment
environment files input = record { files = files; input = input }

-- the status, the text on the standard output, whether there was memory for all of it, and the new
-- files. All other files are unchanged: they are only lent to the program
pub record ProgramResult : Type 0 where
  pub status : ℕ
  pub text : List ℕ
  pub complete : Bool
  pub made : List NamedFile

-- the result of the program, as contracts see it
abbrev pub result_of : Ended → ProgramResult
result_of e = record {
  status = e.status;
  text = e.text.items;
  complete = e.complete;
  made = e.made.items;
}

-- the image with this name: `-` is the standard input
abbrev pub image_at : Environment → List ℕ → Option (List ℕ)
image_at before name =
    if bytes_eq name (codes "-") then Some before.input else file_bytes before.files name

-- the patches of the script in the file with this name, in the order in which they are applied
pub record HasPatches (before : Environment) (name : List ℕ) (patches : List Patch) : Type 0 where
  pub text : List ℕ
  pub there : file_bytes before.files name ≡ Some text
  pub within : length text ≤ text_limit
  pub reads : (ps : List Patch) × (script text ≡ Ok ps) × (patches ≡ order ps)

-- why there are no patches, and the line that reports it. For a lack of memory, a file may be left
-- unread, or a script without its patches. If a text that was read has an error, the line reports
-- that error
pub data NoPatches (before : Environment) (name line : List ℕ) : Type 0 where
  absent : file_bytes before.files name ≡ None → line ≡ no_script → NoPatches before name line
  too_long : (text : List ℕ) → file_bytes before.files name ≡ Some text → text_limit < length text
      → line ≡ load_fault_line load_fault.TooLong → NoPatches before name line
  faulty : (text : List ℕ) (fault : ScriptFault) → file_bytes before.files name ≡ Some text
      → length text ≤ text_limit → script text ≡ Err fault → line ≡ script_fault_line fault
      → NoPatches before name line
  unread : (text : List ℕ) → file_bytes before.files name ≡ Some text → line ≡ no_memory
      → NoPatches before name line
  without_memory : (text : List ℕ) (ps : List Patch) → file_bytes before.files name ≡ Some text
      → length text ≤ text_limit → script text ≡ Ok ps
      → line ≡ script_fault_line script_fault.NoMemory → NoPatches before name line

-- both files exist
pub record Opened (before : Environment) (image script_name : List ℕ) : Type 0 where
  pub patches : List Patch
  pub script : HasPatches before script_name patches
  pub bytes : List ℕ
  pub there : image_at before image ≡ Some bytes

-- ---- what is printed

-- the text is this front and then a line, whose end is missing only if memory was refused
pub record Prints (after : ProgramResult) (front line : List ℕ) : Type 0 where
  pub printed_log : List ℕ
  pub text : after.text ≡ front ++ printed_log
  pub begins : IsBeginning printed_log line
  pub whole : after.complete ≡ true → printed_log ≡ line

-- only this line was printed, the status is 2, and no file was made
pub record FailsWith (after : ProgramResult) (line : List ℕ) : Type 0 where
  pub status : after.status ≡ failed_status
  pub prints : Prints after [] line
  pub none_made : after.made ≡ []

-- why a report on an image of these bytes ended with status 2 after it had printed a front of its
-- text: the image is too long, or there was no memory for the text, and some of it is missing
pub data WhyStopped (after : ProgramResult) (bytes text printed_before : List ℕ) : Type 0 where
  too_long : image_limit < length bytes → Prints after printed_before (fault_line TooLong)
      → WhyStopped after bytes text printed_before
  no_text : after.complete ≡ false → after.text ≡ printed_before
      → length printed_before < length text → WhyStopped after bytes text printed_before

-- ---- the commands

-- `list` and `audit`: the text of the image is printed, or a beginning of it if the call was
-- stopped. If `complete` is true, this beginning is exactly the lines that were due when one byte
-- too many was read
pub data ReportsOn {T : Type 0} (spec : ReportSpec T) (status_of : T → ℕ) (image : List ℕ)
    (before : Environment) (after : ProgramResult) : Type 0 where
  without_image : image_at before image ≡ None → FailsWith after no_image
      → ReportsOn spec status_of image before after
  reported : (bytes : List ℕ) → image_at before image ≡ Some bytes → length bytes ≤ image_limit
      → after.text ≡ spec.text bytes → after.complete ≡ true
      → after.status ≡ status_of (spec.tally bytes)
      → after.made ≡ [] → ReportsOn spec status_of image before after
  stopped : (bytes printed_before : List ℕ) → image_at before image ≡ Some bytes
      → IsBeginning printed_before (spec.text (take image_limit bytes))
      → (after.complete ≡ true
      → printed_before ≡ text_of (spec.due (take (image_limit + 1) bytes)))
      → WhyStopped after bytes (spec.text (take image_limit bytes)) printed_before
      → after.status ≡ failed_status → after.made ≡ [] → ReportsOn spec status_of image before after

module _ (settings : Settings) {before : Environment} {image script_name : List ℕ}
    (after : ProgramResult)
    (files : Opened before image script_name) where
  -- each patch was decided in order, and the log of their outcomes was printed
  pub record Patches : Type 0 where
    pub within : length files.bytes ≤ image_limit
    pub outcomes : List Outcome
    pub last : List ℕ
    pub patched : IsPatched settings.carry files.patches outcomes settings.base files.bytes last
    pub text : after.text ≡ log_text files.patches outcomes
    pub complete : after.complete ≡ true
    pub status : after.status ≡ script_status (patch_tally files.bytes outcomes)

  -- why the patching ended with status 2, and the state of the image, the new file, and the log
  -- then. Either one byte too many was read: the log has exactly the lines of the patches before
  -- the first one that reaches past the largest size, and the new file exactly the sectors before
  -- that patch. Or there was no memory for the new file: it lacks some of the bytes read, and the
  -- log has exactly the lines that belong before the bytes sent. Or there was no memory for the
  -- text: some of the log is missing, and exactly the bytes that belong before the line in which it
  -- was cut were sent
  pub data WhyPatchingStopped (read sent printed_before : List ℕ) : Type 0 where
    too_long : image_limit < length files.bytes → length read ≡ image_limit + 1
        → EachPatching settings.carry files.patches settings.base (take image_limit files.bytes)
        (λ outcomes last. printed_before ≡ log_when_too_long files.patches outcomes settings.base)
        → length sent ≡ sent_when_too_long files.patches settings.base
        → Prints after printed_before (fault_line TooLong)
        → WhyPatchingStopped read sent printed_before
    no_room : after.made ≢ [] → length read ≤ image_limit → length sent < length read
        → EachPatching settings.carry files.patches settings.base (take image_limit files.bytes)
        (λ outcomes last. printed_before ≡ log_when_out_fails files.patches outcomes settings.base
        (length read) (length sent))
        → Prints after printed_before (fault_line Write)
        → WhyPatchingStopped read sent printed_before
    no_text : after.complete ≡ false → length read ≤ image_limit
        → EachPatching settings.carry files.patches settings.base (take image_limit files.bytes)
        (λ outcomes last. (length printed_before < length (log_text files.patches outcomes))
        × (length sent ≡ sent_when_log_fails files.patches outcomes settings.base
        (take image_limit files.bytes) (length printed_before)))
        → after.text ≡ printed_before → WhyPatchingStopped read sent printed_before

  -- the call was stopped: a front of the image was read, at most `bytes_in_hand` bytes more than
  -- were sent. For each way to patch the image, cut at the largest size, the bytes sent begin the
  -- patched image, and the bytes printed begin its log
  pub record StopsPatching (sent : List ℕ) : Type 0 where
    pub read : List ℕ
    pub read_begins : IsBeginning read files.bytes
    pub in_hand : length read ≤ length sent + bytes_in_hand
    pub printed_before : List ℕ
    pub begins : EachPatching settings.carry files.patches settings.base
        (take image_limit files.bytes)
        (Begins files.patches sent printed_before)
    pub why : WhyPatchingStopped read sent printed_before
    pub status : after.status ≡ failed_status

-- `check`
pub data ChecksOn (settings : Settings) (image script_name : List ℕ) (before : Environment)
    (after : ProgramResult) : Type 0 where
  without_script : (line : List ℕ) → NoPatches before script_name line → FailsWith after line
      → ChecksOn settings image script_name before after
  without_image : (patches : List Patch) → HasPatches before script_name patches
      → image_at before image ≡ None → FailsWith after no_image
      → ChecksOn settings image script_name before after
  checked : (files : Opened before image script_name) → Patches settings after files
      → after.made ≡ [] → ChecksOn settings image script_name before after
  stopped : (files : Opened before image script_name) (sent : List ℕ)
      → StopsPatching settings after files sent → after.made ≡ []
      → ChecksOn settings image script_name before after

-- `apply`: the new file has the patched image, or a beginning of it if the call was stopped
pub data AppliesOn (settings : Settings) (image script_name out : List ℕ) (before : Environment)
    (after : ProgramResult) : Type 0 where
  without_script : (line : List ℕ) → NoPatches before script_name line → FailsWith after line
      → AppliesOn settings image script_name out before after
  without_image : (patches : List Patch) → HasPatches before script_name patches
      → image_at before image ≡ None → FailsWith after no_image
      → AppliesOn settings image script_name out before after
  without_output : (files : Opened before image script_name) (there : List ℕ)
      → file_bytes before.files out ≡ Some there → FailsWith after no_output
      → AppliesOn settings image script_name out before after
  without_memory : (files : Opened before image script_name)
      → file_bytes before.files out ≡ None → FailsWith after no_memory
      → AppliesOn settings image script_name out before after
  applied : (files : Opened before image script_name) → file_bytes before.files out ≡ None
      → (patches : Patches settings after files) → after.made ≡ named_file out patches.last ∷ []
      → AppliesOn settings image script_name out before after
  stopped : (files : Opened before image script_name) → file_bytes before.files out ≡ None
      → (sent : List ℕ) → StopsPatching settings after files sent
      → after.made ≡ named_file out sent ∷ []
      → AppliesOn settings image script_name out before after

-- each task runs the command of its name
abbrev pub DoesTask : Task → Environment → ProgramResult → Type 0
DoesTask (Task.list base image) before after =
    ReportsOn (list_report base) (λ _. done_status) image before after
DoesTask (Task.audit base image) before after =
    ReportsOn (audit_report base) audit_status image before after
DoesTask (Task.check settings image script_name) before after =
    ChecksOn settings image script_name before after
DoesTask (Task.apply settings image script_name out) before after =
    AppliesOn settings image script_name out before after

-- a job does its task
abbrev pub DoesOn : Job → Environment → ProgramResult → Type 0
DoesOn job before after = DoesTask (task_of job) before after

-- the arguments ask for no job: no file is made, and the help or the reason is printed
pub record Explains (args : List (List ℕ)) (after : ProgramResult) : Type 0 where
  pub fault : LineFault
  pub kind : HasKindOf args fault
  pub memory : IsAccepted args → fault ≡ line_fault.NoMemory
  pub text : Option (List ℕ)
  pub without_text : fault ≡ line_fault.NoMemory → text ≡ None
  pub prints : Prints after [] (printed text)
  pub status : after.complete ≡ true → after.status ≡ printed_status fault text
  pub cut : after.complete ≡ false → after.status ≡ failed_status
  pub none_made : after.made ≡ []

-- the theorem: the arguments ask for a job, and it is done; or they ask for no job, and the reason
-- is explained
abbrev pub RunsOn : List (List ℕ) → Environment → ProgramResult → Type 0
RunsOn args before after =
    ((job : Job) × IsJobOf args job × (error_kinds args ≡ []) × DoesOn job before after)
    ⊎ Explains args after
