-- The kind and the findings of sectors, as records of six bytes. The kinds have the numbers of
-- `enum cdpatch_sector_kind`.
use Rattle.std.specs.Prelude.{ℕ, ◌==◌, ◌+◌, if◌then◌else◌, List, [], ◌∷◌, ◌++◌, Option, Some, None}
use Rattle.cd_sector.specs.Kind.{kind_number, kind_of}
use Rattle.cd_sector.specs.declared.kinds.SectorKind.{SectorKind}
use Rattle.cd_sector.specs.declared.kinds.SectorKind.TheVariants.{NoSync, Mode0, Mode1, Mode2}
use Rattle.cd_sector.specs.declared.kinds.SectorKind.TheVariants.{Other}
use Rattle.cd_report.specs.AuditText.{findings_of, finding_lines}
use Rattle.cd_report.specs.declared.findings.Findings.{Findings}
use Rattle.cd_c.specs.Results.{as_byte}
use Rattle.cd_c.specs.declared.surveying.SectorRecord.{SectorRecord}

-- the record with the number of a kind, and with findings
abbrev pub told : ℕ → Option Findings → SectorRecord
told kind None = record { kind = kind; address = 0; zeros = 0; edc = 0; p = 0; q = 0 }
told kind (Some found) = record {
  kind = kind;
  address = as_byte found.address;
  zeros = as_byte found.defect.zeros;
  edc = as_byte found.defect.edc;
  p = found.defect.p;
  q = found.defect.q;
}

-- the record of the sector of a block
unfoldable pub record_of : ℕ → List ℕ → SectorRecord
record_of block sector = told (kind_number (kind_of sector)) (findings_of block sector)

-- the records of sectors; the first sector is that of `block`
abbrev pub survey : ℕ → List (List ℕ) → List SectorRecord
survey block [] = []
survey block (sector ∷ others) = record_of block sector ∷ survey (block + 1) others

-- the kind with this number
abbrev pub kind_at : ℕ → SectorKind
kind_at number =
    if number == 0 then NoSync else if number == 1 then Mode0 else if number == 2 then Mode1
    else if number == 3 then Mode2 else Other

-- the kind of a record
abbrev pub kind_in : SectorRecord → SectorKind
kind_in r = kind_at r.kind

-- the findings in a record
abbrev pub found_in : SectorRecord → Option Findings
found_in r =
    if r.kind == 2 then Some (record {
      address = r.address == 1;
      defect = record { zeros = r.zeros == 1; edc = r.edc == 1; p = r.p; q = r.q };
    }) else None

-- the lines of records; the first record is that of `block`
abbrev pub lines_in : ℕ → List SectorRecord → List (List ℕ)
lines_in block [] = []
lines_in block (r ∷ others) = finding_lines block (found_in r) ++ lines_in (block + 1) others
