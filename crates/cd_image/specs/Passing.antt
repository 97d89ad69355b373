-- Plumbing of `apply` and `check`: the progress of a run over a source and two sinks.
use Rattle.std.specs.Prelude.{◌≡◌, ℕ, ◌≤◌, Bool, true, List, ◌++◌}
use Rattle.std.specs.Prelude.{take, drop, Option, IsSome, Result, Ok, Err}
use Rattle.std.specs.Io.KnownBytes.{IsAtEnd}
use Rattle.cd_script.specs.PatchForm.{Patch}
use Rattle.cd_patch.specs.declared.outcome.Outcome.{Outcome}
use Rattle.cd_image.specs.Applying.{Applies, Failed, Flushed, Streams}
use Rattle.cd_run.specs.Running.{Reached, closed_at, sent_bytes, tail_bytes, tail_of, window_of}
use Rattle.cd_sector.specs.Image.{bytes_of}
use Rattle.cd_run.specs.PatchLog.{log_lines}
use Rattle.cd_read.specs.declared.fault.Fault.{Fault}
use Rattle.cd_stream.specs.Transfer.{Gives, Takes}
use Rattle.cd_run.specs.declared.run.PatchRun.{PatchRun}

-- the run since `start`, over these streams: the bytes read, sent, and logged are those that the
-- run has reached, nothing failed, and no sink was flushed
pub record PassInvariant (carry : Bool) (taken left : List Patch) (base : ℕ) (start now : Streams)
    (window : List (List ℕ)) (block sectors applied : ℕ) (tail : Option (List ℕ))
    (closed : Bool) : Type 0 where
  pub seen : List (List ℕ)
  pub done : List (List ℕ)
  pub outcomes : List Outcome
  pub gives : Gives start.image now.image (bytes_of seen ++ tail_bytes tail)
  pub sends : Takes start.out now.out (sent_bytes done tail closed)
  pub logs : Takes start.log now.log (log_lines taken outcomes)
  pub ended : IsSome tail → IsAtEnd now.image.rest × (now.image.ended ≡ true)
  pub unfailed : Failed start now 0 0 0
  pub unflushed : Flushed start now 0 0
  pub state : Reached carry taken left base seen done window outcomes block sectors applied tail
      closed

-- `PassInvariant`, for the fields of a run and the sectors in hand
abbrev pub HoldsInvariant : Bool → List Patch → List Patch → ℕ → Streams → Streams → PatchRun
    → List (List ℕ) → Type 0
HoldsInvariant carry taken left base start now run hand =
    PassInvariant carry taken left base start now (window_of run hand) run.block run.sectors
    run.applied (tail_of run hand) (closed_at run.stage)

-- a step succeeded and the run continues, or the call ends with its error
abbrev pub Steps : {X : Type 0} → Bool → List Patch → List Patch → List Patch → List Patch → ℕ
    → Streams → Streams → PatchRun → List (List ℕ) → Result X Fault → Type 0
Steps carry taken left taken' left' base start now run hand (Ok x) =
    HoldsInvariant carry taken' left' base start now run hand
Steps carry taken left taken' left' base start now run hand (Err fault) =
    Applies carry (taken ++ left) base start now (Err fault)

-- the run is complete, for this number of patches
pub record HasNoStepLeft (count : ℕ) (run : PatchRun) : Type 0 where
  pub empty : run.held ≡ 0
  pub closed : run.stage ≡ 2
  pub all : count ≤ run.decided

-- one step succeeded, or the call ends with its error
abbrev pub Advances : {X : Type 0} → Bool → List Patch → ℕ → Streams → Streams → PatchRun
    → List (List ℕ) → Result X Fault → Type 0
Advances carry patches base start now run hand (Ok x) =
    HoldsInvariant carry (take run.decided patches) (drop run.decided patches) base start now run hand
Advances carry patches base start now run hand (Err fault) =
    Applies carry patches base start now (Err fault)
