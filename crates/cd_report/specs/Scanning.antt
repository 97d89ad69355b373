-- Plumbing of `list` and `audit`: the part of a report that is still to be written, sector by
-- sector.
use Rattle.std.specs.Prelude.{◌≡◌, ℕ, ◌+◌, ◌<◌, ◌≤◌, false, true, List, [], ◌∷◌, ◌++◌, length, take}
use Rattle.std.specs.Prelude.{count_by, map, if◌then◌else◌, Option, None, Some, Result, Ok, Err}
use Rattle.cd_sector.specs.Consistent.{is_mode1}
use Rattle.cd_sector.specs.Kind.{kind_of}
use Rattle.cd_sector.specs.declared.kinds.SectorKind.{SectorKind}
use Rattle.cd_stream.specs.Stream.{IsBeginning, Outgoing}
use Rattle.cd_stream.specs.Transfer.{Takes}
use Rattle.cd_report.specs.AuditText.{audit_end, audit_lines, finding_count, is_any, is_damage}
use Rattle.cd_report.specs.AuditText.{is_damaged}
use Rattle.cd_sector.specs.Image.{sectors, tail}
use Rattle.cd_report.specs.Lines.{all_but_last, text_of}
use Rattle.cd_report.specs.ListText.{list_end, run_line, run_lines}
use Rattle.cd_report.specs.OpenRun.{EndsBefore, open_first, open_kinds}
use Rattle.cd_report.specs.Report.{ReportSpec}
use Rattle.cd_report.specs.Runs.{Run, runs}
use Rattle.cd_report.specs.declared.auditing.AuditTally.{AuditTally}
use Rattle.cd_report.specs.declared.findings.Findings.{Findings}
use Rattle.cd_report.specs.declared.listing.ListTally.{ListTally}
use Rattle.cd_report.specs.declared.listing.OpenRun.{OpenRun}

-- the rest of a report, if the sectors `ss` and a tail of `n` bytes follow: `lines ss` is written,
-- then `end ss n`, and the counts are `tally ss n`
pub record Remaining (T : Type 0) : Type 0 where
  pub lines : List (List ℕ) → List (List ℕ)
  pub end : List (List ℕ) → ℕ → List ℕ
  pub tally : List (List ℕ) → ℕ → T

-- the report, if this is its rest at the front of the image
abbrev pub spec_of : {T : Type 0} → Remaining T → ReportSpec T
spec_of remaining = record {
  text = λ image. text_of (remaining.lines (sectors image))
      ++ remaining.end (sectors image) (length (tail image));
  due = λ read. remaining.lines (sectors read);
  tally = λ image. remaining.tally (sectors image) (length (tail image));
}

-- a sector was visited: the lines that were due with it were written, and the rest is still to be
-- written
pub record HasVisited {T : Type 0} (old new : Remaining T) (sector : List ℕ)
    (out out' : Outgoing) : Type 0 where
  pub sent : List (List ℕ)
  pub takes : Takes out out' (text_of sent)
  pub lines : (others : List (List ℕ)) → old.lines (sector ∷ others) ≡ sent ++ new.lines others
  pub end : (others : List (List ℕ)) (left : ℕ)
      → old.end (sector ∷ others) left ≡ new.end others left
  pub tally : (others : List (List ℕ)) (left : ℕ)
      → old.tally (sector ∷ others) left ≡ new.tally others left
  pub nothing_due : new.lines [] ≡ []

-- the write of the one line that was due with a sector failed
pub record HasFailed {T : Type 0} (old : Remaining T) (sector : List ℕ)
    (out out' : Outgoing) : Type 0 where
  pub line : List ℕ
  pub count : ℕ
  pub after : List (List ℕ) → List (List ℕ)
  pub takes : Takes out out' (take count line)
  pub cut : count < length line
  pub lines : (others : List (List ℕ)) → old.lines (sector ∷ others) ≡ line ∷ after others
  pub last : after [] ≡ []

-- one sector was visited, or the write of its line failed
abbrev pub Visits : {T X E : Type 0} → Remaining T → Remaining T → List ℕ → Outgoing → Outgoing
    → Result X E → Type 0
Visits old new sector out out' (Ok x) = HasVisited old new sector out out'
Visits old new sector out out' (Err e) = HasFailed old sector out out'

-- a beginning of the rest of a text was written. No flush was made before all of it was written,
-- and not all was written if the sink's flush cannot fail
pub record FailsToFinish (text : List ℕ) (out out' : Outgoing) : Type 0 where
  pub sent : List ℕ
  pub takes : Takes out out' sent
  pub begins : IsBeginning sent text
  pub unflushed : length sent < length text → out'.flushes ≡ out.flushes
  pub cut : out.flush_may_fail ≡ false → length sent < length text

-- the rest of a text was written, and the sink is finished; at Err a beginning of it was written
abbrev pub Finishes : {X E : Type 0} → List ℕ → Outgoing → Outgoing → Result X E → Type 0
Finishes text out out' (Ok x) = (out'.finished ≡ true) × Takes out out' text
Finishes text out out' (Err e) = FailsToFinish text out out'

-- ---- a listing

-- the line of the last run
abbrev pub last_line : ℕ → List Run → List ℕ
last_line first [] = []
last_line first (run ∷ []) = run_line first run
last_line first (run ∷ next ∷ others) = last_line (first + run.count) (next ∷ others)

-- the lines of the runs that a sector of a different kind has ended
abbrev pub ended_lines : ℕ → List SectorKind → List (List ℕ)
ended_lines first kinds = all_but_last (run_lines first (runs kinds))

-- the rest of a listing after `count` sectors, with an open run
abbrev pub list_remaining : ℕ → Option OpenRun → ℕ → Remaining ListTally
list_remaining base run count = record {
  lines = λ ss. ended_lines (open_first run (base + count)) (open_kinds run ++ map kind_of ss);
  end = λ ss left.
      last_line (open_first run (base + count)) (runs (open_kinds run ++ map kind_of ss))
      ++ list_end (record { sectors = count + length ss; tail = left });
  tally = λ ss left. record { sectors = count + length ss; tail = left };
}

-- the open run has one more sector, or the run's line was written and a new run began
pub record HasExtended (run : Option OpenRun) (next : OpenRun) (block : ℕ) (kind : SectorKind)
    (out out' : Outgoing) : Type 0 where
  pub sent : List (List ℕ)
  pub takes : Takes out out' (text_of sent)
  pub ends : EndsBefore (Some next) (block + 1)
  pub lines : (others : List SectorKind)
      → ended_lines (open_first run block) (open_kinds run ++ kind ∷ others)
      ≡ sent ++ ended_lines next.first (open_kinds (Some next) ++ others)
  pub end : (others : List SectorKind)
      → last_line (open_first run block) (runs (open_kinds run ++ kind ∷ others))
      ≡ last_line next.first (runs (open_kinds (Some next) ++ others))

-- the write of the open run's line failed
pub record FailsToExtend (run : Option OpenRun) (block : ℕ) (kind : SectorKind)
    (out out' : Outgoing) : Type 0 where
  pub line : List ℕ
  pub count : ℕ
  pub takes : Takes out out' (take count line)
  pub cut : count < length line
  pub lines : (others : List SectorKind)
      → ended_lines (open_first run block) (open_kinds run ++ kind ∷ others)
      ≡ line ∷ ended_lines block (kind ∷ others)

-- at Ok the sector is in the open run; at Err the run is unchanged
abbrev pub ExtendsRun : {E : Type 0} → Option OpenRun → Option OpenRun → ℕ → SectorKind → Outgoing
    → Outgoing → Result (Unit {0}) E → Type 0
ExtendsRun run run' block kind out out' (Ok x) =
    (next : OpenRun) × (run' ≡ Some next) × HasExtended run next block kind out out'
ExtendsRun run run' block kind out out' (Err e) =
    (run' ≡ run) × FailsToExtend run block kind out out'

-- ---- an audit

-- the tally with the findings of one more sector
abbrev pub tally_with : AuditTally → Option Findings → AuditTally
tally_with tally None = record tally { sectors = tally.sectors + 1 }
tally_with tally (Some found) = record {
  sectors = tally.sectors + 1;
  mode1 = tally.mode1 + 1;
  damaged = tally.damaged + (if is_damage found.defect then 1 else 0);
  findings = tally.findings + (if is_any (Some found) then 1 else 0);
  tail = tally.tail;
}

-- the tally with more sectors, which start at block `block`, and a tail
abbrev pub tally_with_all : AuditTally → ℕ → List (List ℕ) → ℕ → AuditTally
tally_with_all tally block ss left = record {
  sectors = tally.sectors + length ss;
  mode1 = tally.mode1 + count_by (λ sector. is_mode1 (kind_of sector)) ss;
  damaged = tally.damaged + count_by is_damaged ss;
  findings = tally.findings + finding_count block ss;
  tail = left;
}

-- the rest of an audit after the sectors of the tally
abbrev pub audit_remaining : ℕ → AuditTally → Remaining AuditTally
audit_remaining base tally = record {
  lines = λ ss. audit_lines (base + tally.sectors) ss;
  end = λ ss left. audit_end (tally_with_all tally (base + tally.sectors) ss left);
  tally = λ ss left. tally_with_all tally (base + tally.sectors) ss left;
}

-- no count is above the number of sectors
pub record IsTallyOf (tally : AuditTally) (count : ℕ) : Type 0 where
  pub sectors : tally.sectors ≡ count
  pub mode1 : tally.mode1 ≤ count
  pub damaged : tally.damaged ≤ count
  pub findings : tally.findings ≤ count
