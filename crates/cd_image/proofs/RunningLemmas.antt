-- The contracts of `run_check` and `run_apply`.
use Rattle.std.proofs.Common.{◌≡◌, ◌≢◌, ◌⊎◌, ℕ, ◌==◌, Bool, true, false, List, Ok, Err, refl, ap, ◌∙◌, inl, inr}
use Rattle.cd_stream.specs.Stream.{Incoming, Outgoing}
use Rattle.cd_read.specs.Ends.{IsTooLong}
use Rattle.cd_read.specs.Printing.{PrintsFaultLine}
use Rattle.cd_read.specs.Status.{failed_status}
use Rattle.cd_read.specs.declared.fault.Fault.{Fault}
use Rattle.cd_read.specs.declared.fault.Fault.TheVariants.{Log, Read, TooLong, Write}
use Rattle.cd_read.proofs.PrintingLemmas.{is-too-long, not-failed, one-more}
use Rattle.cd_script.specs.PatchForm.{Patch}
use Rattle.cd_image.specs.Applying.{Applies, WritesCarried, null_outgoing, streams}
use Rattle.cd_image.specs.Running.{RunsApply, RunsCheck, script_status}
use Rattle.cd_image.specs.declared.patch_log.Tally.{Tally}
use Rattle.cd_image.proofs.ApplyReportLemmas.{Applies-ending, Applies-ends_log, Applies-ends_out, Applies-few, Applies-log_bytes, Applies-output}

module _ {carry : Bool} {patches : List Patch} {base : ℕ} {image image' : Incoming}
    {out out' log log' : Outgoing} {status : ℕ} where
  pub RunsApply-done : (tally : Tally)
      → Applies carry patches base (streams image out log) (streams image' out' log') (Ok tally)
      → (carry ≡ true → WritesCarried patches base image out out') → status ≡ script_status tally
      → RunsApply carry patches base image image' out out' log log' status
  RunsApply-done tally applies carried is = record {
    runs = record { result = Ok tally; middle = log'; does = applies; ends = (refl, is) };
    output = λ _. Applies-output (Ok tally) applies;
    carried = λ carries _. carried carries;
    text = λ _ bytes earlier gives holds outcomes last patched.
        let printed =
        Applies-log_bytes (Ok tally) applies bytes earlier gives holds outcomes last patched in
        (printed.0, is ∙ ap script_status printed.1);
    output_ends_well = λ _. Applies-ends_out (Ok tally) applies;
    log_ends_well = λ _. Applies-ends_log (Ok tally) applies;
    output_flushed = λ _. applies.answers.flushes.outs;
    log_flushed = λ _. applies.answers.flushes.logs;
    failed = λ failed. absurd (not-failed (tally.refused == 0) is failed);
    holds_few = Applies-few (Ok tally) applies;
  }

  pub RunsApply-failed : {middle : Outgoing} (fault : Fault)
      → Applies carry patches base (streams image out log) (streams image' out' middle) (Err fault)
      → PrintsFaultLine Log fault middle log' → status ≡ failed_status
      → RunsApply carry patches base image image' out out' log log' status
  RunsApply-failed {middle = middle} fault applies line is = record {
    runs = record { result = Err fault; middle = middle; does = applies; ends = (line, is) };
    output = λ done. absurd (done is);
    carried = λ carries done. absurd (done is);
    text = λ done. absurd (done is);
    output_ends_well = λ done. absurd (done is);
    log_ends_well = λ done. absurd (done is);
    output_flushed = λ done. absurd (done is);
    log_flushed = λ done. absurd (done is);
    failed = λ _. shows fault applies line;
    holds_few = Applies-few (Err fault) applies;
  }
    where
      shows : (fault : Fault)
          → Applies carry patches base (streams image out log) (streams image' out' middle)
          (Err fault)
          → PrintsFaultLine Log fault middle log'
          → (image'.failures ≢ image.failures) ⊎ (out'.failures ≢ out.failures)
          ⊎ (log'.failures ≢ log.failures) ⊎ IsTooLong image image'
      shows Read applies line = inl (one-more applies.answers.failed.reads)
      shows Write applies line = inr (inl (one-more applies.answers.failed.writes))
      shows Log applies line =
          inr (inr (inl (one-more
          (ap (λ o. o.failures) (line.0 refl) ∙ applies.answers.failed.logs))))
      shows TooLong applies line = inr (inr (inr (is-too-long (Applies-ending _ applies))))

-- a check does what `apply` does with an output that keeps nothing
pub RunsCheck-of : {carry : Bool} {patches : List Patch} {base : ℕ} {image image' : Incoming}
    {log log' : Outgoing} {status taken flushes : ℕ} {finished : Bool}
    → RunsApply carry patches base image image' (null_outgoing 0 0 false)
    (null_outgoing taken flushes finished) log log' status
    → RunsCheck carry patches base image image' log log' status
RunsCheck-of {taken = taken} {flushes = flushes} {finished = finished} run = record {
  runs = record {
    result = run.runs.result;
    middle = run.runs.middle;
    does = (taken, flushes, finished, run.runs.does);
    ends = run.runs.ends;
  };
  text = run.text;
  ends_well = run.log_ends_well;
  flushed = run.log_flushed;
  failed = λ failed. elim (run.failed failed) [
    | inl read ↦ inl read
    | inr (inl wrote) ↦ absurd (wrote refl)
    | inr (inr others) ↦ inr others
  ];
}
