-- The lines of `list` and `audit`, from the numbers and records of C.
use Rattle.std.specs.Prelude.{ℕ, ◌+◌, ◌-◌, nat_lt, if◌then◌else◌, List, [], Option, Some, None}
use Rattle.cd_sector.specs.declared.kinds.SectorKind.{SectorKind}
use Rattle.cd_report.specs.AuditText.{finding_lines}
use Rattle.cd_report.specs.Lines.{text_of}
use Rattle.cd_report.specs.ListText.{run_line}
use Rattle.cd_c.specs.Survey.{found_in, kind_at}
use Rattle.cd_c.specs.declared.surveying.SectorRecord.{SectorRecord}

-- the kind of a number of `enum cdpatch_sector_kind`; none for any other number
abbrev pub kind_numbered : ℕ → Option SectorKind
kind_numbered number = if nat_lt number 5 then Some (kind_at number) else None

-- the line of a run from the first to the last block; empty if the run has no block or no kind
abbrev pub run_told : ℕ → ℕ → Option SectorKind → List ℕ
run_told first last None = []
run_told first last (Some kind) =
    if nat_lt last first then []
    else run_line first (record { kind = kind; count = last + 1 - first })

-- the line of an audit for the record of a block; empty if the record has no finding
abbrev pub finding_told : ℕ → SectorRecord → List ℕ
finding_told block r = text_of (finding_lines block (found_in r))
