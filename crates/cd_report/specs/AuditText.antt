-- The text that `audit` writes for an image.
use Rattle.std.specs.Prelude.{◌≡◌, ℕ, ◌+◌, ◌≤◌, Bool, false, not, ◌&&◌, ◌||◌, if◌then◌else◌, List}
use Rattle.std.specs.Prelude.{[], ◌∷◌, ◌++◌, length, count_by, codes, decimal, nat_eq, Option, None}
use Rattle.std.specs.Prelude.{Some}
use Rattle.std.specs.List.{list_any, starts_with}
use Rattle.cd_address.specs.Address.{address}
use Rattle.cd_sector.specs.Consistent.{header_of, is_mode1}
use Rattle.cd_sector.specs.Defect.{defect_of, is_broken, is_nonzero, is_sound}
use Rattle.cd_sector.specs.Kind.{kind_of}
use Rattle.cd_sector.specs.declared.defects.DefectReport.{DefectReport}
use Rattle.cd_sector.specs.Image.{base_limit, image_limit, sectors, tail}
use Rattle.cd_report.specs.Lines.{line_count, text_of}
use Rattle.cd_report.specs.Report.{ReportSpec}
use Rattle.cd_report.specs.declared.auditing.AuditTally.{AuditTally}
use Rattle.cd_report.specs.declared.findings.Findings.{Findings}

-- ---- the findings in one sector

-- the header doesn't begin with the address of the block, if the block has one
abbrev pub is_other_address : Option (List ℕ) → List ℕ → Bool
is_other_address None header = false
is_other_address (Some due) header = not (starts_with nat_eq header due)

-- the wrong parts of a sector, as `defect` returns them
unfoldable pub report_of : List ℕ → DefectReport
report_of sector = record {
  zeros = list_any is_nonzero (defect_of sector).zeros;
  edc = is_nonzero (defect_of sector).rest;
  p = count_by is_broken (defect_of sector).columns;
  q = count_by is_broken (defect_of sector).diagonals;
}

-- whether the address of a block's sector is wrong, and the defect of the sector
abbrev pub found_of : ℕ → List ℕ → Findings
found_of block sector = record {
  address = is_other_address (address block) (header_of sector);
  defect = report_of sector;
}

-- the findings in a sector; None if the sector is not of Mode 1
unfoldable pub findings_of : ℕ → List ℕ → Option Findings
findings_of block sector = if is_mode1 (kind_of sector) then Some (found_of block sector) else None

-- any part of the sector is wrong
abbrev pub is_damage : DefectReport → Bool
is_damage report = ((report.zeros || report.edc) || is_nonzero report.p) || is_nonzero report.q

-- the sector has a line: for a wrong address, or for a part that is wrong
abbrev pub is_any : Option Findings → Bool
is_any None = false
is_any (Some found) = found.address || is_damage found.defect

-- ---- the text

-- a name, if `found`
abbrev pub name_if : Bool → List ℕ → List ℕ
name_if found name = if found then name else []

-- a name and a count, if the count is not 0
abbrev pub count_if : List ℕ → ℕ → List ℕ
count_if name count = if is_nonzero count then name ++ decimal count else []

-- the block's number, and then the findings, in this order
unfoldable pub finding_line : ℕ → Findings → List ℕ
finding_line block found =
    decimal block ++ name_if found.address (codes " address")
    ++ name_if found.defect.zeros (codes " zeros") ++ name_if found.defect.edc (codes " edc")
    ++ count_if (codes " p=") found.defect.p ++ count_if (codes " q=") found.defect.q ++ codes "\n"

-- the line of a sector, if it has one
abbrev pub finding_lines : ℕ → Option Findings → List (List ℕ)
finding_lines block None = []
finding_lines block (Some found) = if is_any (Some found) then finding_line block found ∷ [] else []

-- the lines of sectors, which start at block `block`
abbrev pub audit_lines : ℕ → List (List ℕ) → List (List ℕ)
audit_lines block [] = []
audit_lines block (sector ∷ others) =
    finding_lines block (findings_of block sector) ++ audit_lines (block + 1) others

-- a Mode 1 sector is damaged if a part of its defect is not 0
abbrev pub is_damaged : List ℕ → Bool
is_damaged sector = is_mode1 (kind_of sector) && not (is_sound (defect_of sector))

-- how many sectors have a line
abbrev pub finding_count : ℕ → List (List ℕ) → ℕ
finding_count block [] = 0
finding_count block (sector ∷ others) =
    (if is_any (findings_of block sector) then 1 else 0) + finding_count (block + 1) others

-- the counts of sectors, which start at block `block`
abbrev pub counts_of : ℕ → List (List ℕ) → ℕ → AuditTally
counts_of block ss left = record {
  sectors = length ss;
  mode1 = count_by (λ sector. is_mode1 (kind_of sector)) ss;
  damaged = count_by is_damaged ss;
  findings = finding_count block ss;
  tail = left;
}

-- the counts of an image whose first block is `base`
abbrev pub audit_tally : ℕ → List ℕ → AuditTally
audit_tally base image = counts_of base (sectors image) (length (tail image))

-- the last line
unfoldable pub audit_end : AuditTally → List ℕ
audit_end tally =
    codes "sectors " ++ decimal tally.sectors ++ codes " mode1 " ++ decimal tally.mode1
    ++ codes " damaged " ++ decimal tally.damaged
    ++ codes " tail " ++ decimal tally.tail ++ codes "\n"

-- the complete text, if the image's first block is `base`
abbrev pub audit_text : ℕ → List ℕ → List ℕ
audit_text base image =
    text_of (audit_lines base (sectors image)) ++ audit_end (audit_tally base image)

-- the report of an audit: the line of a sector is due when the sector was read
abbrev pub audit_report : ℕ → ReportSpec AuditTally
audit_report base = record {
  text = audit_text base;
  due = λ read. audit_lines base (sectors read);
  tally = audit_tally base;
}

-- the text has one line more than `findings` counts
abbrev pub AuditCountsLines : Type 0
AuditCountsLines =
    (base : ℕ) (image : List ℕ) → base ≤ base_limit → length image ≤ image_limit
    → line_count (audit_text base image) ≡ (audit_tally base image).findings + 1
