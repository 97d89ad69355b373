-- The effect of a call that reads an image to its end and writes a text about it. The plain clauses
-- of the calls follow from `Reports`.
use Rattle.std.specs.Prelude.{◌≡◌, ℕ, ◌+◌, ◌<◌, ◌≤◌, false, true, List, [], ◌++◌}
use Rattle.std.specs.Prelude.{length, Some, Result, Ok, Err}
use Rattle.std.specs.Io.KnownBytes.{IsAtEnd}
use Rattle.cd_read.specs.Ends.{MayBeImage, MayBeImageAtEnd}
use Rattle.cd_sector.specs.Image.{image_limit}
use Rattle.cd_report.specs.Lines.{all_but_last, text_of}
use Rattle.cd_read.specs.declared.fault.Fault.{Fault}
use Rattle.cd_read.specs.declared.fault.Fault.TheVariants.{Log, Read, TooLong, Write}
use Rattle.cd_stream.specs.Stream.{Incoming, IsBeginning, Outgoing}
use Rattle.cd_stream.specs.Transfer.{CountsFlush, Gives, Takes}

-- a report: the text of an image, its counts (`tally`), and the lines that are `due` once some of
-- its bytes were read
pub record ReportSpec (T : Type 0) : Type 0 where
  pub text : List ℕ → List ℕ
  pub due : List ℕ → List (List ℕ)
  pub tally : List ℕ → T

-- all of the image was read, until the source ended, and all of its text was written
pub record CompletesReport {T : Type 0} (spec : ReportSpec T) (read sent : List ℕ)
    (image image' : Incoming) (out out' : Outgoing) (reported : T) : Type 0 where
  pub reads : image'.failures ≡ image.failures
  pub writes : out'.failures ≡ out.failures
  pub finished : out'.finished ≡ true
  pub at_end : IsAtEnd image'.rest
  pub ended : image'.ended ≡ true
  pub within : length read ≤ image_limit
  pub whole_sent : sent ≡ spec.text read
  pub tally_right : reported ≡ spec.tally read

-- a read failed: exactly the lines that were due were written, and no flush was made. These lines
-- begin the text of each image that begins with the bytes read
pub record StopsReading {T : Type 0} (spec : ReportSpec T) (read sent : List ℕ)
    (image image' : Incoming) (out out' : Outgoing) : Type 0 where
  pub reads : image'.failures ≡ image.failures + 1
  pub writes : out'.failures ≡ out.failures
  pub unflushed : out'.flushes ≡ out.flushes
  pub unended : image'.ended ≡ false
  pub within : length read ≤ image_limit
  pub due_sent : sent ≡ text_of (spec.due read)
  pub beginning : (whole : List ℕ) → MayBeImage read whole → IsBeginning sent (spec.text whole)

-- a write or the flush failed: at least the lines that were due, without the last one, were
-- written. No flush was made before all of the text was written. If the sink's flush cannot fail,
-- some of the text was not written
pub record StopsWriting {T : Type 0} (spec : ReportSpec T) (read sent : List ℕ)
    (image image' : Incoming) (out out' : Outgoing) : Type 0 where
  pub reads : image'.failures ≡ image.failures
  pub writes : out'.failures ≡ out.failures + 1
  pub unflushed : length sent < length (spec.text read) → out'.flushes ≡ out.flushes
  pub within : length read ≤ image_limit
  pub due_sent : IsBeginning (text_of (all_but_last (spec.due read))) sent
  pub beginning : (whole : List ℕ) → MayBeImageAtEnd image'.rest read whole
      → IsBeginning sent (spec.text whole)
  pub cut : out.flush_may_fail ≡ false → (whole : List ℕ) → MayBeImageAtEnd image'.rest read whole
      → length sent < length (spec.text whole)

-- exactly one byte was read after the millionth sector; no flush was made
pub record StopsTooLong {T : Type 0} (spec : ReportSpec T) (read sent : List ℕ)
    (image image' : Incoming) (out out' : Outgoing) : Type 0 where
  pub reads : image'.failures ≡ image.failures
  pub writes : out'.failures ≡ out.failures
  pub unflushed : out'.flushes ≡ out.flushes
  pub unended : image'.ended ≡ false
  pub beyond : length read ≡ image_limit + 1
  pub due_sent : sent ≡ text_of (spec.due read)
  pub beginning : (whole : List ℕ) → MayBeImage read whole → IsBeginning sent (spec.text whole)

-- the bytes read and sent, by the result: the complete report, or the state that each error leaves
abbrev pub ReportAnswers : {T : Type 0} → ReportSpec T → List ℕ → List ℕ → Incoming → Incoming
    → Outgoing
    → Outgoing → Result T Fault → Type 0
ReportAnswers spec read sent image image' out out' (Ok reported) =
    CompletesReport spec read sent image image' out out' reported
ReportAnswers spec read sent image image' out out' (Err Read) =
    StopsReading spec read sent image image' out out'
ReportAnswers spec read sent image image' out out' (Err Write) =
    StopsWriting spec read sent image image' out out'
ReportAnswers spec read sent image image' out out' (Err Log) = ⊥
ReportAnswers spec read sent image image' out out' (Err TooLong) =
    StopsTooLong spec read sent image image' out out'

-- the complete contract of a call: it read some bytes, sent some, made one flush at the end, and
-- returned a result that matches them. It holds for sources and sinks whose bytes are known, and
-- for others
pub record Reports {T : Type 0} (spec : ReportSpec T) (image image' : Incoming)
    (out out' : Outgoing) (result : Result T Fault) : Type 0 where
  pub read : List ℕ
  pub sent : List ℕ
  pub gives : Gives image image' read
  pub takes : Takes out out' sent
  pub flushes : CountsFlush out.flushes out'.flushes result
  pub answers : ReportAnswers spec read sent image image' out out' result

-- if the bytes of source and sink are known: all of the image was read, and its text was appended
-- to the sink
abbrev pub WritesText : {T : Type 0} → ReportSpec T → Incoming → Incoming → Outgoing → Outgoing → T
    → Type 0
WritesText spec image image' out out' reported =
    (bytes earlier : List ℕ) → image.rest ≡ Some bytes → out.written ≡ Some earlier
    → (image'.rest ≡ Some []) × (out'.written ≡ Some (earlier ++ spec.text bytes))
    × (reported ≡ spec.tally bytes)
