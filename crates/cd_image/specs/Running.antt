-- The effect of `run_check` and `run_apply`, whatever the source and the sinks are.
use Rattle.std.specs.Prelude.{◌≡◌, ◌≢◌, ℕ, ◌+◌, ◌==◌, ◌⊎◌, if◌then◌else◌, Bool, true, List, ◌++◌, Some}
use Rattle.cd_stream.specs.Stream.{Incoming, Outgoing}
use Rattle.cd_read.specs.Ends.{EndsWell, IsTooLong}
use Rattle.cd_read.specs.Printing.{CallThenLine}
use Rattle.cd_read.specs.Status.{done_status, failed_status, found_status}
use Rattle.cd_read.specs.declared.fault.Fault.TheVariants.{Log}
use Rattle.cd_script.specs.PatchForm.{Patch}
use Rattle.cd_run.specs.PatchLog.{log_text}
use Rattle.cd_run.specs.Patched.{EachPatching}
use Rattle.cd_image.specs.Applying.{Applies, Checks, HoldsFew, WritesCarried, WritesPatched, patch_tally, streams}
use Rattle.cd_image.specs.declared.patch_log.Tally.{Tally}

-- what a script ends with
abbrev pub script_status : Tally → ℕ
script_status tally = if tally.refused == 0 then done_status else found_status

-- if the bytes of the image and the log are known: the log of the patches was appended to the log,
-- and the status is the status of its counts
abbrev pub PrintsPatchLog : Bool → List Patch → ℕ → Incoming → Outgoing → Outgoing → ℕ → Type 0
PrintsPatchLog carry patches base image log log' status =
    (bytes earlier : List ℕ) → image.rest ≡ Some bytes → log.written ≡ Some earlier
    → EachPatching carry patches base bytes (λ outcomes last.
    (log'.written ≡ Some (earlier ++ log_text patches outcomes))
    × (status ≡ script_status (patch_tally bytes outcomes)))

-- `check`: the patches are decided on the image, then the line for an error is printed
pub record RunsCheck (carry : Bool) (patches : List Patch) (base : ℕ) (image image' : Incoming)
    (log log' : Outgoing) (status : ℕ) : Type 0 where
  pub runs : CallThenLine (λ middle answer. Checks carry patches base image image' log middle
      answer)
      Log script_status log' status
  -- the result if nothing failed, and the conditions of a failure
  pub text : status ≢ failed_status → PrintsPatchLog carry patches base image log log' status
  pub ends_well : status ≢ failed_status → EndsWell image image' log log'
  pub flushed : status ≢ failed_status → log'.flushes ≡ log.flushes + 1
  pub failed : status ≡ failed_status → (image'.failures ≢ image.failures)
      ⊎ (log'.failures ≢ log.failures) ⊎ IsTooLong image image'

-- `apply`: the patched image is written to the output, then the line for an error is printed
pub record RunsApply (carry : Bool) (patches : List Patch) (base : ℕ) (image image' : Incoming)
    (out out' log log' : Outgoing) (status : ℕ) : Type 0 where
  pub runs : CallThenLine (λ middle answer. Applies carry patches base (streams image out log)
      (streams image' out' middle) answer)
      Log script_status log' status
  -- the result if nothing failed, the conditions of a failure, and how many bytes are held
  pub output : status ≢ failed_status → WritesPatched carry patches base image image' out out'
  pub carried : carry ≡ true → status ≢ failed_status → WritesCarried patches base image out out'
  pub text : status ≢ failed_status → PrintsPatchLog carry patches base image log log' status
  pub output_ends_well : status ≢ failed_status → EndsWell image image' out out'
  pub log_ends_well : status ≢ failed_status → EndsWell image image' log log'
  pub output_flushed : status ≢ failed_status → out'.flushes ≡ out.flushes + 1
  pub log_flushed : status ≢ failed_status → log'.flushes ≡ log.flushes + 1
  pub failed : status ≡ failed_status → (image'.failures ≢ image.failures)
      ⊎ (out'.failures ≢ out.failures) ⊎ (log'.failures ≢ log.failures) ⊎ IsTooLong image image'
  pub holds_few : HoldsFew (streams image out log) (streams image' out' log')
