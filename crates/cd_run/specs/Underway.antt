-- A run of patches in terms of bytes, for callers that read and write the bytes themselves.
use Rattle.std.specs.Prelude.{◌≡◌, ℕ, ◌≤◌, ◌++◌, Bool, List, length, take, drop}
use Rattle.cd_script.specs.PatchForm.{Patch}
use Rattle.cd_sector.specs.Image.{bytes_of}
use Rattle.cd_patch.specs.declared.outcome.Outcome.{Outcome}
use Rattle.cd_run.specs.PatchLog.{log_lines}
use Rattle.cd_run.specs.Running.{HasReached, IsRun, closed_at, sent_bytes, tail_bytes, tail_of}
use Rattle.cd_run.specs.declared.run.PatchRun.{PatchRun}

-- a run of all patches in progress: the bytes `read` of the image were read, the bytes `sent` were
-- sent, and the lines `log_bytes` were due
pub record Underway (carry : Bool) (patches : List Patch) (base : ℕ) (read sent log_bytes : List ℕ)
    (run : PatchRun) (hand : List (List ℕ)) : Type 0 where
  pub seen : List (List ℕ)
  pub done : List (List ℕ)
  pub outcomes : List Outcome
  pub sound : IsRun run
  pub known : run.decided ≤ length patches
  pub state : HasReached carry (take run.decided patches) (drop run.decided patches) base seen done
      outcomes run hand
  pub came : read ≡ bytes_of seen ++ tail_bytes (tail_of run hand)
  pub went : sent ≡ sent_bytes done (tail_of run hand) (closed_at run.stage)
  pub logged : log_bytes ≡ log_lines (take run.decided patches) outcomes
