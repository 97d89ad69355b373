-- The effect of `apply` and `check`, for each result. The plain clauses of `apply`, at the end of
-- this file, follow from `Applies`.
use Rattle.std.specs.Prelude.{◌≡◌, ◌↔◌, ℕ, ◌+◌, ◌<◌, ◌≤◌, Bool, true, false, List, [], ◌++◌}
use Rattle.std.specs.Prelude.{length, Option, None, Some, Result, Ok, Err, IfOk, OnOk}
use Rattle.std.specs.Io.KnownBytes.{Appends, Consumes, IsAtEnd}
use Rattle.cd_code.specs.Field.{AreBytes}
use Rattle.cd_script.specs.PatchForm.{Patch}
use Rattle.cd_patch.specs.declared.outcome.Outcome.{Outcome}
use Rattle.cd_sector.specs.Image.{image_limit, sectors, tail}
use Rattle.cd_run.specs.PatchLog.{applied_count, log_text, log_when_out_fails, log_when_too_long, refused_count}
use Rattle.cd_run.specs.PatchLog.{sent_when_log_fails, sent_when_too_long}
use Rattle.cd_run.specs.InHand.{bytes_in_hand}
use Rattle.cd_run.specs.Patched.{CarriesDamage, EachPatching, IsPatched}
use Rattle.cd_stream.specs.Stream.{Incoming, IsBeginning, Outgoing}
use Rattle.cd_read.specs.Ends.{AnswersByEnd, AnswersByLength, AnswersTooLong, EndsWell, MayBeImage, MayBeImageAtEnd}
use Rattle.cd_read.specs.declared.fault.Fault.{Fault}
use Rattle.cd_read.specs.declared.fault.Fault.TheVariants.{Log, Read, TooLong, Write}
use Rattle.cd_image.specs.declared.patch_log.Tally.{Tally}

-- an image, an output, and a log, as contracts see them
pub record Streams : Type 0 where
  pub image : Incoming
  pub out : Outgoing
  pub log : Outgoing

-- a record of the three
abbrev pub streams : Incoming → Outgoing → Outgoing → Streams
streams image out log = record { image = image; out = out; log = log }

-- how many calls of each failed between `old` and `new`
pub record Failed (old new : Streams) (of_image of_out of_log : ℕ) : Type 0 where
  pub reads : new.image.failures ≡ old.image.failures + of_image
  pub writes : new.out.failures ≡ old.out.failures + of_out
  pub logs : new.log.failures ≡ old.log.failures + of_log

-- how many flushes of each sink were made between `old` and `new`
pub record Flushed (old new : Streams) (of_out of_log : ℕ) : Type 0 where
  pub outs : new.out.flushes ≡ old.out.flushes + of_out
  pub logs : new.log.flushes ≡ old.log.flushes + of_log

-- the counts of the outcomes, of the image's sectors, and of the bytes of its tail
abbrev pub patch_tally : List ℕ → List Outcome → Tally
patch_tally image os = record {
  applied = applied_count os;
  refused = refused_count os;
  sectors = length (sectors image);
  tail = length (tail image);
}

-- all of the image was read, and the patched image and the log of the patches were written. Each
-- sink was flushed exactly once
pub record CompletesPatching (carry : Bool) (patches : List Patch) (base : ℕ)
    (read sent log_bytes : List ℕ) (old new : Streams) (tally : Tally) : Type 0 where
  pub failed : Failed old new 0 0 0
  pub flushes : Flushed old new 1 1
  pub out_finished : new.out.finished ≡ true
  pub log_finished : new.log.finished ≡ true
  pub at_end : IsAtEnd new.image.rest
  pub ended : new.image.ended ≡ true
  pub within : length read ≤ image_limit
  pub outcomes : List Outcome
  pub patched : IsPatched carry patches outcomes base read sent
  pub log_right : log_bytes ≡ log_text patches outcomes
  pub tally_right : tally ≡ patch_tally read outcomes

-- the bytes sent begin the patched image, and the bytes logged begin its log
abbrev pub Begins : List Patch → List ℕ → List ℕ → List Outcome → List ℕ → Type 0
Begins patches sent log_bytes outcomes last =
    IsBeginning sent last × IsBeginning log_bytes (log_text patches outcomes)

-- a read failed: no sink was flushed
pub record StopsAtRead (carry : Bool) (patches : List Patch) (base : ℕ)
    (read sent log_bytes : List ℕ)
    (old new : Streams) : Type 0 where
  pub failed : Failed old new 1 0 0
  pub flushes : Flushed old new 0 0
  pub unended : new.image.ended ≡ false
  pub within : length read ≤ image_limit
  pub begins : (whole : List ℕ) → MayBeImage read whole
      → EachPatching carry patches base whole (Begins patches sent log_bytes)

-- a write or the flush of the output failed: the log has exactly the lines that belong before the
-- bytes sent. If the source has no bytes left, or its bytes are not known, the image is assumed to
-- end with the bytes read. The output was flushed at most once, after all bytes read were sent, and
-- the log never. If the output's flush cannot fail, not all bytes read were sent
pub record StopsAtWrite (carry : Bool) (patches : List Patch) (base : ℕ)
    (read sent log_bytes : List ℕ)
    (old new : Streams) : Type 0 where
  pub failed : Failed old new 0 1 0
  pub out_flushes : ℕ
  pub flushes : Flushed old new out_flushes 0
  pub once : out_flushes ≤ 1
  pub at_end : length sent < length read → out_flushes ≡ 0
  pub cut : old.out.flush_may_fail ≡ false → length sent < length read
  pub within : length read ≤ image_limit
  pub begins : (whole : List ℕ) → MayBeImageAtEnd new.image.rest read whole
      → EachPatching carry patches base whole (Begins patches sent log_bytes)
  pub between_sinks : (whole : List ℕ) → MayBeImageAtEnd new.image.rest read whole
      → EachPatching carry patches base whole
      (λ outcomes last. log_bytes ≡ log_when_out_fails patches outcomes base (length read)
      (length sent))

-- a write or the flush of the log failed: exactly the bytes that belong before the line in which it
-- failed were sent. If all of the log was written, the output is finished. Only then was the output
-- flushed, exactly once, and the log at most once. If the log's flush cannot fail, not all of the
-- log was written
pub record StopsAtLog (carry : Bool) (patches : List Patch) (base : ℕ)
    (read sent log_bytes : List ℕ)
    (old new : Streams) : Type 0 where
  pub failed : Failed old new 0 0 1
  pub out_flushes : ℕ
  pub log_flushes : ℕ
  pub flushes : Flushed old new out_flushes log_flushes
  pub once : (out_flushes ≤ 1) × (log_flushes ≤ out_flushes)
  pub within : length read ≤ image_limit
  pub begins : (whole : List ℕ) → MayBeImageAtEnd new.image.rest read whole
      → EachPatching carry patches base whole (Begins patches sent log_bytes)
  pub between_sinks : (whole : List ℕ) → MayBeImageAtEnd new.image.rest read whole
      → EachPatching carry patches base whole
      (λ outcomes last. length sent ≡ sent_when_log_fails patches outcomes base whole
      (length log_bytes))
  pub flushed : (whole : List ℕ) → MayBeImageAtEnd new.image.rest read whole
      → EachPatching carry patches base whole
      (λ outcomes last. log_bytes ≡ log_text patches outcomes → new.out.finished ≡ true)
  pub at_end : (whole : List ℕ) → MayBeImageAtEnd new.image.rest read whole
      → EachPatching carry patches base whole
      (λ outcomes last. (log_bytes ≡ log_text patches outcomes) ↔ (out_flushes ≡ 1))
  pub cut : old.log.flush_may_fail ≡ false → (whole : List ℕ)
      → MayBeImageAtEnd new.image.rest read whole
      → EachPatching carry patches base whole
      (λ outcomes last. length log_bytes < length (log_text patches outcomes))

-- exactly one byte was read after the millionth sector. A patch that reaches past that sector waits
-- for the end of the image. So the log has exactly the lines of the patches before the first such
-- patch, and exactly the sectors before it were sent, or all sectors. No sink was flushed
pub record StopsBeyond (carry : Bool) (patches : List Patch) (base : ℕ)
    (read sent log_bytes : List ℕ)
    (old new : Streams) : Type 0 where
  pub failed : Failed old new 0 0 0
  pub flushes : Flushed old new 0 0
  pub beyond : length read ≡ image_limit + 1
  pub unended : new.image.ended ≡ false
  pub begins : (whole : List ℕ) → MayBeImage read whole
      → EachPatching carry patches base whole (Begins patches sent log_bytes)
  pub between_sinks : (whole : List ℕ) → MayBeImage read whole
      → EachPatching carry patches base whole
      (λ outcomes last. log_bytes ≡ log_when_too_long patches outcomes base)
  pub sent_before : length sent ≡ sent_when_too_long patches base

-- the bytes read, sent, and logged, by the result: the complete patching, or the state that each
-- error leaves
abbrev pub AppliesBy : Bool → List Patch → ℕ → List ℕ → List ℕ → List ℕ → Streams → Streams
    → Result Tally Fault → Type 0
AppliesBy carry patches base read sent log_bytes old new (Ok tally) =
    CompletesPatching carry patches base read sent log_bytes old new tally
AppliesBy carry patches base read sent log_bytes old new (Err Read) =
    StopsAtRead carry patches base read sent log_bytes old new
AppliesBy carry patches base read sent log_bytes old new (Err Write) =
    StopsAtWrite carry patches base read sent log_bytes old new
AppliesBy carry patches base read sent log_bytes old new (Err Log) =
    StopsAtLog carry patches base read sent log_bytes old new
AppliesBy carry patches base read sent log_bytes old new (Err TooLong) =
    StopsBeyond carry patches base read sent log_bytes old new

-- the complete contract of `apply`: it read, sent, and logged some bytes, and returned a result
-- that matches them. Each of the three streams has counted its own bytes, and each sink still has
-- the slice that was lent to it. At most `bytes_in_hand` more bytes were read than sent
pub record Applies (carry : Bool) (patches : List Patch) (base : ℕ) (old new : Streams)
    (result : Result Tally Fault) : Type 0 where
  pub read : List ℕ
  pub sent : List ℕ
  pub log_bytes : List ℕ
  pub consumes : Consumes old.image.rest new.image.rest read
  pub given : new.image.given ≡ old.image.given + length read
  pub appends : Appends old.out.written new.out.written sent
  pub out_taken : new.out.taken ≡ old.out.taken + length sent
  pub out_lent : new.out.lent ≡ old.out.lent
  pub logs : Appends old.log.written new.log.written log_bytes
  pub log_taken : new.log.taken ≡ old.log.taken + length log_bytes
  pub log_lent : new.log.lent ≡ old.log.lent
  pub in_hand : length read ≤ length sent + bytes_in_hand
  pub answers : AppliesBy carry patches base read sent log_bytes old new result

-- an output that keeps nothing and never fails, as contracts see it
abbrev pub null_outgoing : ℕ → ℕ → Bool → Outgoing
null_outgoing taken flushes finished = record {
  written = None;
  taken = taken;
  flushes = flushes;
  failures = 0;
  finished = finished;
  flush_may_fail = false;
  lent = None;
}

-- the complete contract of `check`: the contract of `apply` with an output that keeps nothing
abbrev pub Checks : Bool → List Patch → ℕ → Incoming → Incoming → Outgoing → Outgoing
    → Result Tally Fault → Type 0
Checks carry patches base image image' log log' result =
    (taken : ℕ) × (flushes : ℕ) × (finished : Bool) × Applies carry patches base
    (streams image (null_outgoing 0 0 false) log)
    (streams image' (null_outgoing taken flushes finished) log') result

-- ---- the same in plain words

-- if the bytes of the image and the output are known: all of the image was read, and the patched
-- image was appended to the output
abbrev pub WritesPatched : Bool → List Patch → ℕ → Incoming → Incoming → Outgoing → Outgoing
    → Type 0
WritesPatched carry patches base image image' out out' =
    (bytes earlier : List ℕ) → image.rest ≡ Some bytes → out.written ≡ Some earlier
    → (image'.rest ≡ Some [])
    × EachPatching carry patches base bytes (λ outcomes last. out'.written ≡ Some (earlier ++ last))

-- if the bytes of the image and the log are known: the log of the patches was appended to the log,
-- and the tally has its counts
abbrev pub WritesLog : Bool → List Patch → ℕ → Incoming → Outgoing → Outgoing → Tally → Type 0
WritesLog carry patches base image log log' tally =
    (bytes earlier : List ℕ) → image.rest ≡ Some bytes → log.written ≡ Some earlier
    → EachPatching carry patches base bytes (λ outcomes last.
    (log'.written ≡ Some (earlier ++ log_text patches outcomes))
    × (tally ≡ patch_tally bytes outcomes))

-- `whole` may be the image that was read when this error occurred
abbrev pub MayBeImageAfter : Fault → Option (List ℕ) → List ℕ → List ℕ → Type 0
MayBeImageAfter Read left read whole = MayBeImage read whole
MayBeImageAfter Write left read whole = MayBeImageAtEnd left read whole
MayBeImageAfter Log left read whole = MayBeImageAtEnd left read whole
MayBeImageAfter TooLong left read whole = MayBeImage read whole

-- after an error: the bytes logged begin the log of each run on each image that may be the one that
-- was read
pub record BeginsLog (carry : Bool) (patches : List Patch) (base : ℕ) (image image' : Incoming)
    (log log' : Outgoing) (fault : Fault) : Type 0 where
  pub read : List ℕ
  pub log_bytes : List ℕ
  pub consumes : Consumes image.rest image'.rest read
  pub logs : Appends log.written log'.written log_bytes
  pub begins : (whole : List ℕ) → MayBeImageAfter fault image'.rest read whole
      → EachPatching carry patches base whole
      (λ outcomes last. IsBeginning log_bytes (log_text patches outcomes))

-- if the bytes of the image and the output are known: at most `bytes_in_hand` bytes were read and
-- not sent
abbrev pub HoldsFew : Streams → Streams → Type 0
HoldsFew old new =
    (given left earlier now : List ℕ) → old.image.rest ≡ Some given → new.image.rest ≡ Some left
    → old.out.written ≡ Some earlier → new.out.written ≡ Some now
    → length given + length earlier ≤ length left + length now + bytes_in_hand

-- the same by the counts, whether or not the bytes are known
abbrev pub HoldsFewCounted : Streams → Streams → Type 0
HoldsFewCounted old new =
    new.image.given + old.out.taken ≤ old.image.given + new.out.taken + bytes_in_hand

-- if damage is carried, and the bytes of the image and the output are known: the image in which the
-- patches kept the damage was appended to the output
abbrev pub WritesCarried : List Patch → ℕ → Incoming → Outgoing → Outgoing → Type 0
WritesCarried patches base image out out' =
    (bytes earlier : List ℕ) → AreBytes bytes → image.rest ≡ Some bytes → out.written ≡ Some earlier
    → (outcomes : List Outcome) × (last : List ℕ) × (out'.written ≡ Some (earlier ++ last))
    × CarriesDamage patches outcomes base bytes last

-- the plain clauses of `apply`: the result if nothing failed, when each error occurs, and how many
-- bytes are held
pub record AppliesPlainly (carry : Bool) (patches : List Patch) (base : ℕ) (old new : Streams)
    (result : Result Tally Fault) : Type 0 where
  pub output : OnOk result (WritesPatched carry patches base old.image new.image old.out new.out)
  pub carried : carry ≡ true → OnOk result (WritesCarried patches base old.image old.out new.out)
  pub log : IfOk result (WritesLog carry patches base old.image old.log new.log)
  pub output_ends_well : OnOk result (EndsWell old.image new.image old.out new.out)
  pub log_ends_well : OnOk result (EndsWell old.image new.image old.log new.log)
  pub read_failed : (result ≡ Err Read) ↔ (new.image.failures ≡ old.image.failures + 1)
  pub write_failed : (result ≡ Err Write) ↔ (new.out.failures ≡ old.out.failures + 1)
  pub log_failed : (result ≡ Err Log) ↔ (new.log.failures ≡ old.log.failures + 1)
  pub too_long : AnswersTooLong old.image new.image result
  pub by_length : new.image.failures ≡ old.image.failures → new.out.failures ≡ old.out.failures
      → new.log.failures ≡ old.log.failures → AnswersByLength old.image result
  pub ended : OnOk result (new.image.ended ≡ true)
  pub by_end : new.image.failures ≡ old.image.failures → new.out.failures ≡ old.out.failures
      → new.log.failures ≡ old.log.failures → AnswersByEnd new.image result
  pub holds_few : HoldsFew old new
  pub holds_few_counted : HoldsFewCounted old new
