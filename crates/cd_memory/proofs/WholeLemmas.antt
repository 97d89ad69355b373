-- From the effect of the program on a host to its effect on files in memory.
use Rattle.std.proofs.Common.{◌≡◌, ◌≢◌, ℕ, suc, zero, Bool, true, false, List, [], ◌∷◌, ◌++◌, Option, None, Some, Result, Ok, Err, is_some, string_bytes, refl, sym, ap, ◌∙◌, subst, inl, inr}
use Rattle.cd_read.specs.Status.{done_status, failed_status}
use Rattle.cd_args.specs.Fault.{no_memory, printed}
use Rattle.cd_args.specs.declared.job.Job.{Job}
use Rattle.cd_args.specs.Options.{task_of}
use Rattle.cd_args.specs.Task.{Task}
use Rattle.cd_image.specs.Applying.{Applies, null_outgoing, streams}
use Rattle.cd_image.specs.declared.patch_log.Tally.{Tally}
use Rattle.cd_read.specs.declared.fault.Fault.{Fault}
use Rattle.cd_read.specs.declared.fault.Fault.TheVariants.{Log}
use Rattle.cd_report.specs.AuditText.{audit_report}
use Rattle.cd_report.specs.ListText.{list_report}
use Rattle.cd_report.specs.Report.{ReportSpec}
use Rattle.cd_script.specs.PatchForm.{Patch}
use Rattle.cd_stream.specs.Adapters.{slice_incoming}
use Rattle.cd_stream.specs.Stream.{Outgoing}
use Rattle.cd_stream.specs.declared.adapters.slice_source.SliceSource.{SliceSource}
use Rattle.cd_program.specs.Messages.{no_image, no_output, open_fault_line}
use Rattle.cd_program.specs.Program.{DoesApply, DoesCheck, DoesReport, NoImage, NoScript, RunsJob, RunsTask, TakesImage, TakesScript, FlushesRest, RefusesArgs, RunsArgs}
use Rattle.std.specs.Io.KnownBytes.{Appends}
use Rattle.cd_read.specs.Printing.{Ends, PrintsLine}
use Rattle.cd_report.specs.Running.{audit_status}
use Rattle.cd_image.specs.Running.{script_status}
use Rattle.cd_host.specs.declared.host.OpenFault.{OpenFault}
use Rattle.cd_host.specs.declared.host.OpenFault.TheVariants.{NoMemory, Refused}
use Rattle.cd_args.specs.declared.settings.Settings.{Settings}
use Rattle.cd_memory.specs.Files.{file_bytes, named_file, with_bytes}
use Rattle.cd_memory.specs.declared.memory.Memory.{Memory}
use Rattle.cd_memory.specs.Memory.{Makes, Opens, TakesBack, files_of, input_of, is_there, made_of, memory_hosting}
use Rattle.cd_stream.specs.Fresh.{fresh_incoming, fresh_outgoing}
use Rattle.cd_memory.specs.Whole.{AppliesOn, ChecksOn, DoesOn, DoesTask, Environment, Explains, FailsWith, HasPatches, NoPatches, Opened, ProgramResult, ReportsOn, RunsOn, environment, image_at}
use Rattle.cd_stream.proofs.KnownLemmas.{Appends-Some, Keeps-Some, Some-injective}
use Rattle.cd_memory.proofs.KnownLemmas.{none-failed, some-failed}
use Rattle.cd_memory.proofs.MemoryLemmas.{TakesImage-opens, absent-of, there-of, with_bytes-one}
use Rattle.cd_memory.proofs.PatchLemmas.{Took, takes}
use Rattle.cd_memory.proofs.PrintLemmas.{Leaves, Prints-line}
use Rattle.cd_memory.proofs.ReportLemmas.{reports}
use Rattle.cd_memory.proofs.ScriptLemmas.{has-patches, lacks-patches}

-- passing on the bytes that a sink still held moved none of its bytes
rest-kept : (old new : Outgoing) (bytes : List ℕ) → FlushesRest old new → old.written ≡ Some bytes
    → new.written ≡ Some bytes
rest-kept old new bytes rest got = go old.finished refl old.failures refl
  where
    unmoved : new ≡ old → new.written ≡ Some bytes
    unmoved same = ap (λ o. o.written) same ∙ got

    go : (finished : Bool) → old.finished ≡ finished → (failures : ℕ) → old.failures ≡ failures
        → new.written ≡ Some bytes
    go true done failures count = unmoved (rest.idle (inl done))
    go false unfinished zero count =
        Keeps-Some old.written new.written bytes got (rest.once unfinished count).1.bytes
    go false unfinished (suc n) count =
        unmoved (rest.idle (inr (λ none. let no : suc n ≡ 0 = sym count ∙ none in cc)))

module _ {O : Type 0} (gone : O → Outgoing) (host host' : Memory) (log : Outgoing) (after : ProgramResult)
    (fresh_host : made_of host ≡ []) (leaves : Leaves log after)
    (as_made : after.made ≡ made_of host') where
  abbrev before : Environment
  before = environment (files_of host) (input_of host)

  none-made : host' ≡ host → after.made ≡ []
  none-made same = as_made ∙ ap made_of same ∙ fresh_host

  -- only a line was printed
  fails-with : (line : List ℕ) → after.made ≡ [] → PrintsLine line fresh_outgoing log
      → after.status ≡ failed_status → FailsWith after line
  fails-with line none says status = record {
    status = status;
    prints = Prints-line line [] fresh_outgoing log after refl refl leaves says;
    none_made = none;
  }

  -- the image does not exist
  no-image : (name : List ℕ)
      → NoImage slice_incoming gone (memory_hosting gone) host' log after.status name host
      fresh_outgoing
      → (image_at before name ≡ None) × FailsWith after no_image
  unfolding open_fault_line
  no-image name missing =
      go (image_at before name) refl
      (TakesImage-opens gone name host host' (Err missing.0) missing.1)
    where
      go : (found : Option (List ℕ)) → image_at before name ≡ found
          → (host' ≡ host) × Opens found (Err missing.0)
          → (image_at before name ≡ None) × FailsWith after no_image
      go (Some bytes) is opens = absurd opens.1
      go None is opens = (
        is,
        fails-with no_image (none-made opens.0)
            (subst (λ f. PrintsLine (open_fault_line no_image f) fresh_outgoing log)
            opens.1 missing.2.0)
            missing.2.1,
      )

  -- ---- `list` and `audit`

  pub reports-on : {T : Type 0} (spec : ReportSpec T) (status_of : T → ℕ) (name : List ℕ)
      → DoesReport slice_incoming gone (memory_hosting gone) host' log after.status spec status_of
      name host fresh_outgoing
      → ReportsOn spec status_of name before after
  reports-on spec status_of name (DoesReport.without_image missing) =
      let none = no-image name missing in ReportsOn.without_image none.0 none.1
  reports-on spec status_of name (DoesReport.reported image left asked done) =
      go (image_at before name) refl (TakesImage-opens gone name host host' (Ok image) asked)
    where
      go : (found : Option (List ℕ)) → image_at before name ≡ found
          → (host' ≡ host) × Opens found (Ok image) → ReportsOn spec status_of name before after
      go None is opens = absurd opens.1
      go (Some bytes) is opens =
          reports spec status_of before after name bytes left.rest.now is
          (slice_incoming image) (slice_incoming left) fresh_outgoing done.runs.middle log
          (ap (λ i. i.rest) opens.1) refl refl refl leaves (none-made opens.0)
          done.runs.result done.runs.does done.runs.ends

  -- ---- scripts

  no-script : (name : List ℕ)
      → NoScript slice_incoming gone (memory_hosting gone) host' log after.status name host
      fresh_outgoing
      → (line : List ℕ) × NoPatches before name line × FailsWith after line
  no-script name missing =
      let lacks = lacks-patches before name gone (file_bytes (files_of host) name) refl
      missing.answer missing.asked.1 missing.comes in
      (lacks.0, lacks.1, fails-with lacks.0 (none-made missing.asked.0) lacks.2.0 lacks.2.1)

  -- the script was read, nothing was printed, and the host is unchanged
  record ReadScript (name : List ℕ) (patches : List Patch) (second : Memory)
      (printed_log : Outgoing) : Type 0 where
    pub has : HasPatches before name patches
    pub silent : printed_log ≡ fresh_outgoing
    pub same : second ≡ host

  read-script : (name : List ℕ) (patches : List Patch) (second : Memory) (printed_log : Outgoing)
      → TakesScript slice_incoming (memory_hosting gone) name host second fresh_outgoing printed_log
      (Ok patches)
      → ReadScript name patches second printed_log
  read-script name patches second printed_log script =
      let read = has-patches before name gone patches (file_bytes (files_of host) name) refl
      script.answer script.asked.1 script.comes in
      record { has = read.0; silent = read.1; same = script.asked.0 }

  -- the image was opened too
  record OpenedBoth (name script : List ℕ) (patches : List Patch) (image : SliceSource)
      (third : Memory) : Type 0 where
    pub files : Opened before name script
    pub same_patches : files.patches ≡ patches
    pub fresh : slice_incoming image ≡ fresh_incoming files.bytes
    pub same : third ≡ host

  opened-both : (name script : List ℕ) (patches : List Patch) (second : Memory) (printed_log : Outgoing)
      → ReadScript script patches second printed_log → (image : SliceSource) (third : Memory)
      → TakesImage (memory_hosting gone) name second (Ok image) third
      → OpenedBoth name script patches image third
  opened-both name script patches second printed_log read image third asked =
      go (image_at before name) refl
      (TakesImage-opens gone name host third (Ok image)
      (subst (λ h. TakesImage (memory_hosting gone) name h (Ok image) third) read.same asked))
    where
      go : (found : Option (List ℕ)) → image_at before name ≡ found
          → (third ≡ host) × Opens found (Ok image) → OpenedBoth name script patches image third
      go None is opens = absurd opens.1
      go (Some bytes) is opens = record {
        files = record { patches = patches; script = read.has; bytes = bytes; there = is };
        same_patches = refl;
        fresh = opens.1;
        same = opens.0;
      }

  no-image-after : (name : List ℕ) (second : Memory) (printed_log : Outgoing) → printed_log ≡ fresh_outgoing
      → second ≡ host
      → NoImage slice_incoming gone (memory_hosting gone) host' log after.status name second printed_log
      → (image_at before name ≡ None) × FailsWith after no_image
  no-image-after name second printed_log silent same missing =
      no-image name
      (subst (λ h. NoImage slice_incoming gone
      (memory_hosting gone) host' log after.status name h fresh_outgoing) same
      (subst (λ o. NoImage slice_incoming gone
      (memory_hosting gone) host' log after.status name second o) silent missing))

  -- ---- a call that patches

  took : (settings : Settings) (name script : List ℕ) (patches : List Patch)
      (image left : SliceSource)
      (third : Memory) (both : OpenedBoth name script patches image third)
      (out out' printed_log middle : Outgoing) → printed_log ≡ fresh_outgoing
      → out.flush_may_fail ≡ false → (out'.failures ≢ out.failures → after.made ≢ []) → (result : Result Tally Fault)
      → (a : Applies settings.carry patches settings.base (streams (slice_incoming image) out printed_log)
      (streams (slice_incoming left) out' middle) result)
      → Ends Log script_status result middle log after.status
      → Took settings after both.files a.sent
  took settings name script patches image left third both out out' printed_log middle silent sure made
      result =
      subst
      (λ ps. (a : Applies settings.carry ps settings.base (streams (slice_incoming image) out printed_log)
      (streams (slice_incoming left) out' middle) result)
      → Ends Log script_status result middle log after.status
      → Took settings after both.files a.sent)
      both.same_patches
      (takes settings after both.files left.rest.now (streams (slice_incoming image) out printed_log)
      (streams (slice_incoming left) out' middle) log
      (record { before = ap (λ i. i.rest) both.fresh; after = refl; reads = refl; log = silent; out = sure })
      leaves made result)

  pub checks-on : (settings : Settings) (name script : List ℕ)
      → DoesCheck slice_incoming gone (memory_hosting gone) host' log after.status settings name
      script host fresh_outgoing
      → ChecksOn settings name script before after
  checks-on settings name script (DoesCheck.without_script missing) =
      let none = no-script script missing in ChecksOn.without_script none.0 none.1 none.2
  checks-on settings name script
      (DoesCheck.without_image patches second printed_log takes_script missing) =
      let read = read-script script patches second printed_log takes_script in
      let none = no-image-after name second printed_log read.silent read.same missing in
      ChecksOn.without_image patches read.has none.0 none.1
  checks-on settings name script
      (DoesCheck.checked patches second printed_log takes_script image left asked checks) =
      let read = read-script script patches second printed_log takes_script in
      let both = opened-both name script patches second printed_log read image host' asked in
      go both (took settings name script patches image left host' both
      (null_outgoing 0 0 false)
      (null_outgoing checks.runs.does.0 checks.runs.does.1 checks.runs.does.2) printed_log
      checks.runs.middle read.silent refl (λ more none. more refl)
      checks.runs.result checks.runs.does.3 checks.runs.ends)
    where
      go : (both : OpenedBoth name script patches image host') {sent : List ℕ}
          → Took settings after both.files sent → ChecksOn settings name script before after
      go both (Took.done p last) = ChecksOn.checked both.files p (none-made both.same)
      go both (Took.stopped stops) = ChecksOn.stopped both.files _ stops (none-made both.same)

  -- ---- the new file

  -- the file did not exist, and then exists without bytes
  record MadeFile (path : List ℕ) (out : O) (fourth : Memory) : Type 0 where
    pub absent : file_bytes before.files path ≡ None
    pub made : made_of fourth ≡ named_file path [] ∷ []
    pub fresh : gone out ≡ fresh_outgoing

  made-file : (path : List ℕ) (out : O) (third fourth : Memory) → third ≡ host
      → Makes gone third path (Ok out) fourth → MadeFile path out fourth
  made-file path out third fourth same makes = record {
    absent = absent-of (file_bytes (files_of host) path) (file_bytes (made_of host) path)
        (subst (λ h. is_there h path ≡ false) same makes.0);
    made = makes.1 ∙ ap (λ h. made_of h ++ named_file path [] ∷ []) same
        ∙ ap (λ m. m ++ named_file path [] ∷ []) fresh_host;
    fresh = makes.2;
  }

  -- the file was given back with the bytes sent
  came-back : (path sent : List ℕ) (out made_out last : O) (fourth : Memory)
      → MadeFile path out fourth → Appends (gone out).written (gone made_out).written sent
      → FlushesRest (gone made_out) (gone last) → TakesBack gone fourth path last host'
      → after.made ≡ named_file path sent ∷ []
  came-back path sent out made_out last fourth file went rest back =
      let got : (gone made_out).written ≡ Some sent =
      Appends-Some (gone out).written (gone made_out).written [] sent
      (ap (λ o. o.written) file.fresh) went in
      let same : back.bytes ≡ sent =
      Some-injective (sym back.written ∙ rest-kept (gone made_out) (gone last) sent rest got) in
      as_made ∙ back.made ∙ ap (λ m. with_bytes m path back.bytes) file.made
      ∙ ap (λ b. with_bytes (named_file path [] ∷ []) path b) same ∙ with_bytes-one path [] sent

  -- the file already exists, or memory was refused
  no-output : (name script path : List ℕ) (patches : List Patch) (image : SliceSource)
      (third : Memory)
      (both : OpenedBoth name script patches image third) (printed_log : Outgoing) → printed_log ≡ fresh_outgoing
      → (settings : Settings) (fault : OpenFault) → Makes gone third path (Err fault) host'
      → PrintsLine (open_fault_line no_output fault) printed_log log → after.status ≡ failed_status
      → AppliesOn settings name script path before after
  unfolding open_fault_line
  no-output name script path patches image third both printed_log silent settings Refused
      makes says status =
      let some = there-of (file_bytes (files_of host) path) (file_bytes (made_of host) path)
      (subst (λ h. is_there h path ≡ true) both.same makes.0)
      (subst (λ m. is_some (file_bytes m path) ≡ false) (sym fresh_host) refl) in
      AppliesOn.without_output both.files some.0 some.1
      (fails-with no_output (as_made ∙ makes.1 ∙ ap made_of both.same ∙ fresh_host)
      (subst (λ o. PrintsLine no_output o log) silent says) status)
  no-output name script path patches image third both printed_log silent settings NoMemory
      makes says status =
      AppliesOn.without_memory both.files
      (absent-of (file_bytes (files_of host) path) (file_bytes (made_of host) path)
      (subst (λ h. is_there h path ≡ false) both.same makes.0))
      (fails-with no_memory (as_made ∙ makes.1 ∙ ap made_of both.same ∙ fresh_host)
      (subst (λ o. PrintsLine no_memory o log) silent says) status)

  pub applies-on : (settings : Settings) (name script path : List ℕ)
      → DoesApply slice_incoming gone (memory_hosting gone) host' log after.status settings name
      script path host fresh_outgoing
      → AppliesOn settings name script path before after
  applies-on settings name script path (DoesApply.without_script missing) =
      let none = no-script script missing in AppliesOn.without_script none.0 none.1 none.2
  applies-on settings name script path
      (DoesApply.without_image patches second printed_log takes_script missing) =
      let read = read-script script patches second printed_log takes_script in
      let none = no-image-after name second printed_log read.silent read.same missing in
      AppliesOn.without_image patches read.has none.0 none.1
  applies-on settings name script path
      (DoesApply.without_output patches second printed_log takes_script image third asked missing) =
      let read = read-script script patches second printed_log takes_script in
      no-output name script path patches image third
      (opened-both name script patches second printed_log read image third asked) printed_log read.silent settings
      missing.0 missing.1.1 missing.2.0 missing.2.1
  applies-on settings name script path
      (DoesApply.applied patches second printed_log takes_script image third asked out fourth
      gives done) =
      let read = read-script script patches second printed_log takes_script in
      let both = opened-both name script patches second printed_log read image third asked in
      let file = made-file path out third fourth both.same gives.1 in
      let runs = done.applies.runs in
      let a = runs.does in
      let back = came-back path a.sent out done.made done.last fourth file a.appends
      done.rest done.back in
      go both file back
      (took settings name script patches image done.left third both (gone out)
      (gone done.made)
      printed_log runs.middle read.silent (ap (λ o. o.flush_may_fail) file.fresh)
      (λ more none. let no : named_file path a.sent ∷ [] ≡ [] = sym back ∙ none in cc)
      runs.result a runs.ends)
    where
      go : (both : OpenedBoth name script patches image third) → MadeFile path out fourth
          → {sent : List ℕ} → after.made ≡ named_file path sent ∷ []
          → Took settings after both.files sent
          → AppliesOn settings name script path before after
      go both file back (Took.done p last) =
          AppliesOn.applied both.files file.absent p (back ∙ ap (λ b. named_file path b ∷ []) (sym last))
      go both file back (Took.stopped stops) =
          AppliesOn.stopped both.files file.absent _ stops back

  -- ---- jobs and arguments

  does-task : (task : Task)
      → RunsTask slice_incoming gone (memory_hosting gone) task host host' fresh_outgoing
      log after.status
      → DoesTask task before after
  does-task (Task.list base image) does = reports-on (list_report base) (λ _. done_status) image does
  does-task (Task.audit base image) does = reports-on (audit_report base) audit_status image does
  does-task (Task.check settings image script) does = checks-on settings image script does
  does-task (Task.apply settings image script out) does = applies-on settings image script out does

  pub does-on : (job : Job)
      → RunsJob slice_incoming gone (memory_hosting gone) job host host' fresh_outgoing
      log after.status
      → DoesOn job before after
  does-on job = does-task (task_of job)

  explains : (words : List (List ℕ)) → RefusesArgs words host host' fresh_outgoing log after.status
      → Explains words after
  explains words refuses =
      let done = refuses.done in
      record {
        fault = refuses.fault;
        kind = refuses.kind;
        memory = refuses.memory;
        text = done.text;
        without_text = done.memory;
        prints =
            Prints-line (printed done.text) [] fresh_outgoing log after refl refl
            leaves done.says;
        status = λ all. done.whole (none-failed after.complete log.failures leaves.complete all);
        cut = λ part. done.cut (some-failed after.complete log.failures leaves.complete part);
        none_made = none-made refuses.unchanged;
      }

  pub runs-on : (words : List (List ℕ))
      → RunsArgs slice_incoming gone (memory_hosting gone) words host host' fresh_outgoing
      log after.status
      → RunsOn words before after
  runs-on words (inl does) = inl (does.0, does.1, does.2, does-on does.0 does.4)
  runs-on words (inr refuses) = inr (explains words refuses)
