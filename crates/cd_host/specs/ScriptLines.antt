-- The effect of reading a script: the line for each error, and the state of the file.
use Rattle.std.specs.Prelude.{◌≡◌, ◌≢◌, ℕ, ◌+◌, ◌≤◌, ◌⊎◌, List, length, false, true, Result, Ok, Err, OnErr}
use Rattle.std.specs.Io.KnownBytes.{IsAtEnd}
use Rattle.cd_stream.specs.Stream.{Incoming, Outgoing}
use Rattle.cd_stream.specs.Transfer.{Gives}
use Rattle.cd_script.specs.declared.fault.ScriptFault.{ScriptFault}
use Rattle.cd_script.specs.declared.fault.ScriptFault.TheVariants as script_fault
use Rattle.cd_script.specs.Script.{script}
use Rattle.cd_script.specs.Limits.{text_limit}
use Rattle.cd_read.specs.Status.{failed_status}
use Rattle.cd_host.specs.Messages.{load_fault_line}
use Rattle.cd_read.specs.Printing.{PrintsLine}
use Rattle.cd_host.specs.declared.script.LoadFault.{LoadFault}
use Rattle.cd_host.specs.declared.script.LoadFault.TheVariants.{Read, TooLong, NoMemory}

-- ---- the text of a script

-- the error that is printed for a text: the text's own error if it has one, however much memory
-- there is, else a lack of memory
pub record IsFaultOf (text : List ℕ) (fault : ScriptFault) : Type 0 where
  pub own : (e : ScriptFault) → script text ≡ Err e → fault ≡ e
  pub other : fault ≢ script_fault.NoMemory → script text ≡ Err fault

-- ---- the file of a script

-- the file was read to its end, is no longer than a script may be, and no read of it failed
pub record ReadsWhole (read : List ℕ) (file file' : Incoming) : Type 0 where
  pub reads : file'.failures ≡ file.failures
  pub at_end : IsAtEnd file'.rest
  pub ended : file'.ended ≡ true
  pub within : length read ≤ text_limit

-- the reading stopped before the end of the file: a read failed, a byte too many was read, or
-- memory was refused
abbrev pub StopsLoading : LoadFault → List ℕ → Incoming → Incoming → Type 0
StopsLoading Read read file file' = (file'.failures ≡ file.failures + 1) × (file'.ended ≡ false)
    × (length read ≤ text_limit)
StopsLoading TooLong read file file' = (file'.failures ≡ file.failures) × (file'.ended ≡ false)
    × (length read ≡ text_limit + 1)
StopsLoading NoMemory read file file' = (file'.failures ≡ file.failures) × (file'.ended ≡ false)
    × (length read ≤ text_limit)

-- plumbing of `load_script`: all bytes of the file, or why they were not read
abbrev pub GatherAnswers : {T : Type 0} → (T → List ℕ) → List ℕ → Incoming → Incoming
    → Result T LoadFault → Type 0
GatherAnswers bytes_of read file file' (Ok text) = (bytes_of text ≡ read)
    × ReadsWhole read file file'
GatherAnswers bytes_of read file file' (Err fault) = StopsLoading fault read file file'

-- plumbing of `load_script`: some bytes of the file were read, all or those before an error
pub record Gathers {T : Type 0} (bytes_of : T → List ℕ) (file file' : Incoming)
    (result : Result T LoadFault) : Type 0 where
  pub read : List ℕ
  pub gives : Gives file file' read
  pub answers : GatherAnswers bytes_of read file file' result

-- all bytes of the file, or the line for its error and the status of a failure
abbrev pub LoadAnswers : {T : Type 0} → (T → List ℕ) → List ℕ → Incoming → Incoming → Outgoing
    → Outgoing → Result T ℕ → Type 0
LoadAnswers bytes_of read file file' log log' (Ok text) = (bytes_of text ≡ read)
    × ReadsWhole read file file' × (log' ≡ log)
LoadAnswers bytes_of read file file' log log' (Err status) = (status ≡ failed_status)
    × ((fault : LoadFault) × StopsLoading fault read file file'
    × PrintsLine (load_fault_line fault) log log')

-- some bytes of the file were read: either all bytes, and nothing was printed, or the bytes before
-- an error, and its line was printed
pub record Loads {T : Type 0} (bytes_of : T → List ℕ) (file file' : Incoming) (log log' : Outgoing)
    (result : Result T ℕ) : Type 0 where
  pub read : List ℕ
  pub gives : Gives file file' read
  pub answers : LoadAnswers bytes_of read file file' log log' result

-- the line for the error was printed, and the status is 2
abbrev pub RefusesScript : {T : Type 0} → LoadFault → Outgoing → Outgoing → Result T ℕ → Type 0
RefusesScript fault log log' result = (result ≡ Err failed_status)
    × PrintsLine (load_fault_line fault) log log'

-- a read failed exactly if the line says that the script cannot be read
pub record PrintsFailedReads {T : Type 0} (file file' : Incoming) (log log' : Outgoing)
    (result : Result T ℕ) : Type 0 where
  pub failed : file'.failures ≢ file.failures → RefusesScript Read log log' result
  pub others : file'.failures ≡ file.failures → OnErr result
      (RefusesScript TooLong log log' result ⊎ RefusesScript NoMemory log log' result)
