-- Plumbing of `list`: a run that is still open.
use Rattle.std.specs.Prelude.{◌≡◌, ℕ, ◌+◌, ◌-◌, ◌≤◌, List, [], replicate, Option, None, Some}
use Rattle.cd_sector.specs.declared.kinds.SectorKind.{SectorKind}
use Rattle.cd_report.specs.declared.listing.OpenRun.{OpenRun}

-- the kinds of its sectors
abbrev pub open_kinds : Option OpenRun → List SectorKind
open_kinds None = []
open_kinds (Some run) = replicate (run.last + 1 - run.first) run.kind

-- its first block; if no run is open, the block of the next sector
abbrev pub open_first : Option OpenRun → ℕ → ℕ
open_first None block = block
open_first (Some run) block = run.first

-- an open run ends right before the block
abbrev pub EndsBefore : Option OpenRun → ℕ → Type 0
EndsBefore None block = Unit {0}
EndsBefore (Some run) block = (run.first ≤ run.last) × (run.last + 1 ≡ block)
