-- A line of the program in an output, and how a command ends: after the call on an image, with a line
-- for an error.
use Rattle.std.specs.Prelude.{◌≡◌, ◌≢◌, ℕ, ◌<◌, List, length, true, Result, Ok, Err, OnOk}
use Rattle.cd_stream.specs.Stream.{IsBeginning, Outgoing}
use Rattle.cd_stream.specs.Transfer.{Counts, CountsFlush, Takes}
use Rattle.cd_stream.specs.declared.sink.SinkFailed.{SinkFailed}
use Rattle.cd_read.specs.Messages.{fault_line}
use Rattle.cd_read.specs.Status.{failed_status}
use Rattle.cd_read.specs.declared.fault.Fault.{Fault}

-- a line was written completely and passed on by one flush; or a failure was counted, a beginning
-- of the line was written, and no flush was made before all of it was written
pub record PrintsLine (line : List ℕ) (before after : Outgoing) : Type 0 where
  pub sent : List ℕ
  pub takes : Takes before after sent
  pub begins : IsBeginning sent line
  pub answer : Result (Unit {0}) SinkFailed
  pub whole : OnOk answer ((sent ≡ line) × (after.finished ≡ true))
  pub count : Counts before.failures after.failures answer
  pub flushes : CountsFlush before.flushes after.flushes answer
  pub unflushed : length sent < length line → after.flushes ≡ before.flushes

-- the line for an error, or nothing if the error is `own`: a failure of this very sink
abbrev pub PrintsFaultLine : Fault → Fault → Outgoing → Outgoing → Type 0
PrintsFaultLine own fault before after =
    (fault ≡ own → after ≡ before) × (fault ≢ own → PrintsLine (fault_line fault) before after)

-- a line of the program is printed, with the status of a failure
abbrev pub PrintsAndFails : List ℕ → Outgoing → Outgoing → ℕ → Type 0
PrintsAndFails line before after status = PrintsLine line before after × (status ≡ failed_status)

-- after a call's result: its status, or the fault's line and the status of a failure
abbrev pub Ends : {T : Type 0} → Fault → (T → ℕ) → Result T Fault → Outgoing → Outgoing → ℕ → Type 0
Ends own status_of (Ok reported) before after status = (after ≡ before)
    × (status ≡ status_of reported)
Ends own status_of (Err fault) before after status = PrintsFaultLine own fault before after
    × (status ≡ failed_status)

-- a call, and then the line for its error. The effect of the call is stated for the sink after the
-- call, `middle`, and for the call's result. `own` is the error that gets no line, since it is an
-- error of the sink itself
pub record CallThenLine {T : Type 0} (Does : Outgoing → Result T Fault → Type 0) (own : Fault)
    (status_of : T → ℕ) (after : Outgoing) (status : ℕ) : Type 0 where
  pub result : Result T Fault
  pub middle : Outgoing
  pub does : Does middle result
  pub ends : Ends own status_of result middle after status
