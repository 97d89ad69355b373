-- `check` and `apply` on a script and an image that exist.
use Rattle.std.proofs.Common.{◌≡◌, ◌≢◌, ℕ, ◌+◌, ◌≤◌, false, List, [], ◌++◌, length, take, Some, Result, Ok, Err, refl, sym, ap, ◌∙◌, subst, arith, length-append}
use Rattle.cd_image.specs.Applying.{Applies, Begins, Streams, patch_tally}
use Rattle.cd_run.specs.Patched.{EachPatching, IsPatched}
use Rattle.cd_image.specs.declared.patch_log.Tally.{Tally}
use Rattle.cd_read.specs.Status.{failed_status}
use Rattle.cd_read.specs.Ends.{MayBeImage, MayBeImageAtEnd}
use Rattle.cd_sector.specs.Image.{image_limit}
use Rattle.cd_read.specs.declared.fault.Fault.{Fault}
use Rattle.cd_read.specs.declared.fault.Fault.TheVariants.{Log, Read, TooLong, Write}
use Rattle.cd_stream.specs.Stream.{Outgoing}
use Rattle.std.specs.Io.KnownBytes.{Appends, Consumes, IsAtEnd}
use Rattle.cd_read.specs.Messages.{fault_line}
use Rattle.cd_read.specs.Printing.{Ends, PrintsLine}
use Rattle.cd_image.specs.Running.{script_status}
use Rattle.cd_args.specs.declared.settings.Settings.{Settings}
use Rattle.cd_stream.specs.Fresh.{fresh_outgoing}
use Rattle.cd_memory.specs.Whole.{Environment, Opened, Patches, Prints, ProgramResult, StopsPatching, WhyPatchingStopped}
use Rattle.cd_stream.proofs.KnownLemmas.{Appends-Some, Consumes-known, Some-injective}
use Rattle.cd_read.proofs.KnownLemmas.{Fits-beyond, MayBeImageAtEnd-within, read-whole}
use Rattle.cd_memory.proofs.KnownLemmas.{cut-by-failure, whole-by-none}
use Rattle.cd_memory.proofs.PrintLemmas.{Leaves, Prints-line}

-- the call was completed or stopped, with these bytes sent
pub data Took (settings : Settings) {before : Environment} {image name : List ℕ} (after : ProgramResult)
    (files : Opened before image name) (sent : List ℕ) : Type 0 where
  done : (patches : Patches settings after files) → patches.last ≡ sent
      → Took settings after files sent
  stopped : StopsPatching settings after files sent → Took settings after files sent

-- the streams of a call on an image in memory: all of its bytes are known, and no read of it fails;
-- nothing had been written to the log, and no flush fails
pub record InMemory (bytes rest : List ℕ) (old new : Streams) : Type 0 where
  pub before : old.image.rest ≡ Some bytes
  pub after : new.image.rest ≡ Some rest
  pub reads : new.image.failures ≡ old.image.failures
  pub log : old.log ≡ fresh_outgoing
  pub out : old.out.flush_may_fail ≡ false

module _ (settings : Settings) {before : Environment} {image name : List ℕ} (after : ProgramResult)
    (files : Opened before image name) (rest : List ℕ) (old new : Streams) (log : Outgoing)
    (memory : InMemory files.bytes rest old new) (leaves : Leaves log after)
    (made : new.out.failures ≢ old.out.failures → after.made ≢ []) where
  -- the bytes read and the bytes left
  parts : (read : List ℕ) → Consumes old.image.rest new.image.rest read → files.bytes ≡ read ++ rest
  parts read came =
      Consumes-known old.image.rest new.image.rest files.bytes rest read memory.before
      memory.after came

  -- the bytes written to the log
  logged : (printed_before : List ℕ) → Appends old.log.written new.log.written printed_before
      → new.log.written ≡ Some printed_before
  logged printed_before went =
      Appends-Some old.log.written new.log.written [] printed_before (ap (λ o. o.written) memory.log) went

  -- the number of calls of the log that have failed
  failed-log : (n : ℕ) → new.log.failures ≡ old.log.failures + n → new.log.failures ≡ n
  failed-log n rose =
      let none : old.log.failures ≡ 0 = ap (λ o. o.failures) memory.log in omega (arith, rose, none)

  -- the resulting text, if nothing followed
  text-of : (printed_before : List ℕ) → Appends old.log.written new.log.written printed_before → log ≡ new.log
      → after.text ≡ printed_before
  text-of printed_before went same =
      Some-injective (sym leaves.text ∙ ap (λ o. o.written) same ∙ logged printed_before went)

  fits-left : (read : List ℕ) → files.bytes ≡ read ++ rest → length read ≤ image_limit
      → MayBeImageAtEnd new.image.rest read (take image_limit files.bytes)
  fits-left read is within =
      subst (λ o. MayBeImageAtEnd o read (take image_limit files.bytes)) (sym memory.after)
      (subst (λ b. MayBeImageAtEnd (Some rest) read (take image_limit b)) (sym is)
      (MayBeImageAtEnd-within read rest within))

  fits-beyond : (read : List ℕ) → files.bytes ≡ read ++ rest → image_limit ≤ length read
      → MayBeImage read (take image_limit files.bytes)
  fits-beyond read is beyond =
      subst (λ b. MayBeImage read (take image_limit b)) (sym is) (Fits-beyond read rest beyond)

  -- a line was printed after the bytes logged
  line-after : (line printed_before : List ℕ) → Appends old.log.written new.log.written printed_before
      → new.log.failures ≡ old.log.failures + 0 → PrintsLine line new.log log
      → Prints after printed_before line
  line-after line printed_before went kept says =
      Prints-line line printed_before new.log log after (logged printed_before went) (failed-log 0 kept) leaves says

  -- a call that was stopped
  stops : {result : Result Tally Fault}
      (a : Applies settings.carry files.patches settings.base old new result)
      → after.status ≡ failed_status
      → EachPatching settings.carry files.patches settings.base (take image_limit files.bytes)
      (Begins files.patches a.sent a.log_bytes)
      → WhyPatchingStopped settings after files a.read a.sent a.log_bytes
      → Took settings after files a.sent
  stops a status begins why = Took.stopped (record {
    read = a.read;
    read_begins = (rest, parts a.read a.consumes);
    in_hand = a.in_hand;
    printed_before = a.log_bytes;
    begins = begins;
    why = why;
    status = status;
  })

  pub takes : (result : Result Tally Fault)
      → (a : Applies settings.carry files.patches settings.base old new result)
      → Ends Log script_status result new.log log after.status → Took settings after files a.sent
  takes (Ok tally) a ends =
      let c = a.answers in
      let none : rest ≡ [] = subst IsAtEnd memory.after c.at_end in
      let whole : files.bytes ≡ a.read =
      read-whole files.bytes a.read rest (parts a.read a.consumes) none in
      Took.done
      (record {
        within = subst (λ b. length b ≤ image_limit) (sym whole) c.within;
        outcomes = c.outcomes;
        last = a.sent;
        patched =
            subst (λ b. IsPatched settings.carry files.patches c.outcomes settings.base b a.sent)
            (sym whole) c.patched;
        text = text-of a.log_bytes a.logs ends.0 ∙ c.log_right;
        complete = whole-by-none after.complete log.failures leaves.complete
            (ap (λ o. o.failures) ends.0 ∙ failed-log 0 c.failed.logs);
        status = ends.1 ∙ ap script_status c.tally_right
            ∙ ap (λ b. script_status (patch_tally b c.outcomes)) (sym whole);
      })
      refl
  takes (Err Read) a ends = absurd (omega (arith, a.answers.failed.reads, memory.reads))
  takes (Err Write) a ends =
      let fits = fits-left a.read (parts a.read a.consumes) a.answers.within in
      stops a ends.1 (a.answers.begins (take image_limit files.bytes) fits)
      (WhyPatchingStopped.no_room
      (made (λ same. let more = a.answers.failed.writes in omega (arith, same, more)))
      a.answers.within (a.answers.cut memory.out)
      (a.answers.between_sinks (take image_limit files.bytes) fits)
      (line-after (fault_line Write) a.log_bytes a.logs a.answers.failed.logs
      (ends.0.1 (λ is. cc))))
  takes (Err Log) a ends =
      let fits = fits-left a.read (parts a.read a.consumes) a.answers.within in
      let same : log ≡ new.log = ends.0.0 refl in
      stops a ends.1 (a.answers.begins (take image_limit files.bytes) fits)
      (WhyPatchingStopped.no_text
      (cut-by-failure after.complete log.failures leaves.complete
      (ap (λ o. o.failures) same ∙ failed-log 1 a.answers.failed.logs))
      a.answers.within
      (λ outcomes last patched. (
        a.answers.cut (ap (λ o. o.flush_may_fail) memory.log) (take image_limit files.bytes)
            fits outcomes last patched,
        a.answers.between_sinks (take image_limit files.bytes) fits outcomes last patched,
      ))
      (text-of a.log_bytes a.logs same))
  takes (Err TooLong) a ends =
      let read = parts a.read a.consumes in
      let beyond = a.answers.beyond in
      let fits = fits-beyond a.read read (omega (arith, beyond)) in
      let size : length files.bytes ≡ length (a.read ++ rest) = ap length read in
      stops a ends.1 (a.answers.begins (take image_limit files.bytes) fits)
      (WhyPatchingStopped.too_long
      (omega (arith, size, beyond, length-append a.read rest)) beyond
      (a.answers.between_sinks (take image_limit files.bytes) fits) a.answers.sent_before
      (line-after (fault_line TooLong) a.log_bytes a.logs a.answers.failed.logs
      (ends.0.1 (λ is. cc))))
