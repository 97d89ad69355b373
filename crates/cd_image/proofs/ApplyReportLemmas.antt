-- The effect of `apply`, in plain clauses.
use Rattle.std.proofs.Common.{◌≡◌, Bool, true, List, ℕ, ◌++◌, Some, Result, Ok, Err, IfErr, IfOk, OnOk, length, sym, ap, ◌∙◌, subst, arith, length-append}
use Rattle.std.specs.Prelude.{All}
use Rattle.cd_script.specs.Patch.{IsPatch}
use Rattle.cd_script.specs.PatchForm.{Patch}
use Rattle.cd_image.specs.Applying.{Applies, AppliesPlainly, Begins, BeginsLog, HoldsFew, HoldsFewCounted, MayBeImageAfter, Streams, WritesCarried, WritesLog, WritesPatched}
use Rattle.cd_run.specs.Patched.{EachPatching, IsPatched}
use Rattle.cd_image.specs.Applying.{patch_tally}
use Rattle.cd_run.specs.PatchLog.{log_text}
use Rattle.cd_read.specs.Ends.{EndsWell}
use Rattle.cd_read.specs.declared.fault.Fault.{Fault}
use Rattle.cd_read.specs.declared.fault.Fault.TheVariants.{Log, Read, TooLong, Write}
use Rattle.cd_image.specs.declared.patch_log.Tally.{Tally}
use Rattle.cd_run.proofs.PatchedLemmas.{IsPatched-carries, IsPatched-determined}
use Rattle.cd_read.proofs.general.KnownBytes.{appended, consumed_all, consumed_length}
use Rattle.cd_read.proofs.EndLemmas.{Ending, EndsBy, by_end, by_length, ended as all_ended, log_failed, read_failed, too_long, write_failed}

-- `Applies` for an equal list of patches
pub Applies-same : {carry : Bool} {ps qs : List Patch} {base : ℕ} {old new : Streams}
    {result : Result Tally Fault} → ps ≡ qs → Applies carry ps base old new result
    → Applies carry qs base old new result
Applies-same is a = rw is at a

module _ {carry : Bool} {patches : List Patch} {base : ℕ} {old new : Streams} where
  -- the end of the call, by its result
  ends_by : (result : Result Tally Fault) (a : Applies carry patches base old new result)
      → EndsBy a.read old.image new.image old.out.failures new.out.failures old.log.failures
      new.log.failures result
  ends_by (Ok tally) a =
      let failed = a.answers.failed in
      (omega arith, a.answers.within, a.answers.at_end, a.answers.ended)
  ends_by (Err Read) a = let failed = a.answers.failed in (omega arith, a.answers.within)
  ends_by (Err Write) a = let failed = a.answers.failed in (omega arith, a.answers.within)
  ends_by (Err Log) a = let failed = a.answers.failed in (omega arith, a.answers.within)
  ends_by (Err TooLong) a =
      let failed = a.answers.failed in
      (omega arith, omega (arith, a.answers.beyond), a.answers.unended)

  pub Applies-ending : (result : Result Tally Fault) → Applies carry patches base old new result
      → Ending old.image new.image old.out.failures new.out.failures old.log.failures
      new.log.failures result
  Applies-ending result a =
      record { read = a.read; consumes = a.consumes; by = ends_by result a }

  pub Applies-output : (result : Result Tally Fault) → Applies carry patches base old new result
      → OnOk result (WritesPatched carry patches base old.image new.image old.out new.out)
  Applies-output (Ok tally) a = λ bytes earlier gives holds.
      let all = consumed_all _ new.image.rest a.read _ a.consumes a.answers.at_end gives in
      let is = rw all.1 at a.answers.patched in (
        all.0,
        λ os last patched.
            appended _ new.out.written a.sent _ a.appends holds
            ∙ ap (λ l. Some (earlier ++ l)) (IsPatched-determined _ _ _ _ _ _ _ _ is patched).1,
      )
  Applies-output (Err fault) a = tt

  pub Applies-carried : (result : Result Tally Fault) → Applies carry patches base old new result
      → All IsPatch patches → carry ≡ true
      → OnOk result (WritesCarried patches base old.image old.out new.out)
  Applies-carried (Ok tally) a each carries = λ bytes earlier are gives holds.
      let all = consumed_all _ new.image.rest a.read _ a.consumes a.answers.at_end gives in (
        a.answers.outcomes,
        a.sent,
        appended _ new.out.written a.sent _ a.appends holds,
        IsPatched-carries _ _ _ _ _ each are
            (subst (λ t. IsPatched t patches a.answers.outcomes base bytes a.sent) carries
            (rw all.1 at a.answers.patched)),
      )
  Applies-carried (Err fault) a each carries = tt

  pub Applies-log_bytes : (result : Result Tally Fault) → Applies carry patches base old new result
      → IfOk result (WritesLog carry patches base old.image old.log new.log)
  Applies-log_bytes (Ok tally) a = λ bytes earlier gives holds os last patched.
      let all = consumed_all _ new.image.rest a.read _ a.consumes a.answers.at_end gives in
      let is = rw all.1 at a.answers.patched in
      let same = IsPatched-determined _ _ _ _ _ _ _ _ is patched in (
        appended _ new.log.written a.log_bytes _ a.logs holds
            ∙ ap (λ l. Some (earlier ++ l)) (a.answers.log_right ∙ ap (log_text patches) same.0),
        a.answers.tally_right ∙ ap (λ b. patch_tally b a.answers.outcomes) all.1
            ∙ ap (patch_tally bytes) same.0,
      )
  Applies-log_bytes (Err fault) a = tt

  pub Applies-ends_out : (result : Result Tally Fault) → Applies carry patches base old new result
      → OnOk result (EndsWell old.image new.image old.out new.out)
  Applies-ends_out (Ok tally) a =
      record {
        reads = omega (arith, a.answers.failed.reads);
        writes = omega (arith, a.answers.failed.writes);
        finished = a.answers.out_finished;
      }
  Applies-ends_out (Err fault) a = tt

  pub Applies-ends_log : (result : Result Tally Fault) → Applies carry patches base old new result
      → OnOk result (EndsWell old.image new.image old.log new.log)
  Applies-ends_log (Ok tally) a =
      record {
        reads = omega (arith, a.answers.failed.reads);
        writes = omega (arith, a.answers.failed.logs);
        finished = a.answers.log_finished;
      }
  Applies-ends_log (Err fault) a = tt

  pub Applies-few : (result : Result Tally Fault) → Applies carry patches base old new result
      → HoldsFew old new
  Applies-few result a = λ given left earlier now gives leaves had has.
      let came = consumed_length _ new.image.rest a.read _ _ a.consumes gives leaves in
      let went : Some now ≡ Some (earlier ++ a.sent) =
      sym has ∙ appended _ new.out.written a.sent _ a.appends had in
      let same : now ≡ earlier ++ a.sent = cc in
      omega (arith, a.in_hand, ap length same, length-append earlier a.sent)

  pub Applies-few_counted : (result : Result Tally Fault)
      → Applies carry patches base old new result → HoldsFewCounted old new
  Applies-few_counted result a = omega (arith, a.given, a.out_taken, a.in_hand)

  pub Applies-plainly : All IsPatch patches → (result : Result Tally Fault)
      → Applies carry patches base old new result
      → AppliesPlainly carry patches base old new result
  Applies-plainly each result a =
      let ending = Applies-ending result a in
      record {
        output = Applies-output result a;
        carried = Applies-carried result a each;
        log = Applies-log_bytes result a;
        output_ends_well = Applies-ends_out result a;
        log_ends_well = Applies-ends_log result a;
        read_failed = read_failed result ending;
        write_failed = write_failed result ending;
        log_failed = log_failed result ending;
        too_long = too_long result ending;
        by_length = λ reads writes logs. by_length reads writes logs result ending;
        ended = all_ended result ending;
        by_end = λ reads writes logs. by_end reads writes logs result ending;
        holds_few = Applies-few result a;
        holds_few_counted = Applies-few_counted result a;
      }

  begins_log : {fault : Fault} (a : Applies carry patches base old new (Err fault))
      → ((whole : List ℕ) → MayBeImageAfter fault new.image.rest a.read whole
      → EachPatching carry patches base whole (Begins patches a.sent a.log_bytes))
      → BeginsLog carry patches base old.image new.image old.log new.log fault
  begins_log a begins = record {
    read = a.read;
    log_bytes = a.log_bytes;
    consumes = a.consumes;
    logs = a.logs;
    begins = λ whole fits os last patched. (begins whole fits os last patched).1;
  }

  pub Applies-begins : (result : Result Tally Fault) → Applies carry patches base old new result
      → IfErr result (BeginsLog carry patches base old.image new.image old.log new.log)
  Applies-begins (Ok tally) a = tt
  Applies-begins (Err Read) a = begins_log a a.answers.begins
  Applies-begins (Err Write) a = begins_log a a.answers.begins
  Applies-begins (Err Log) a = begins_log a a.answers.begins
  Applies-begins (Err TooLong) a = begins_log a a.answers.begins
