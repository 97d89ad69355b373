-- The text that `list` writes for an image.
use Rattle.std.specs.Prelude.{ℕ, ◌+◌, ◌-◌, List, [], ◌∷◌, ◌++◌, length, map, codes, decimal}
use Rattle.cd_sector.specs.Kind.{kind_of}
use Rattle.cd_sector.specs.declared.kinds.SectorKind.{SectorKind}
use Rattle.cd_sector.specs.declared.kinds.SectorKind.TheVariants.{NoSync, Mode0, Mode1, Mode2}
use Rattle.cd_sector.specs.declared.kinds.SectorKind.TheVariants.{Other}
use Rattle.cd_sector.specs.Image.{sectors, tail}
use Rattle.cd_report.specs.Lines.{all_but_last, text_of}
use Rattle.cd_report.specs.Report.{ReportSpec}
use Rattle.cd_report.specs.Runs.{Run, runs}
use Rattle.cd_report.specs.declared.listing.ListTally.{ListTally}

-- the name of a kind
unfoldable pub kind_name : SectorKind → List ℕ
kind_name NoSync = codes "nosync"
kind_name Mode0 = codes "mode0"
kind_name Mode1 = codes "mode1"
kind_name Mode2 = codes "mode2"
kind_name Other = codes "other"

-- FIRST-LAST KIND, by block numbers
unfoldable pub run_line : ℕ → Run → List ℕ
run_line first run =
    decimal first ++ codes "-" ++ decimal (first + run.count - 1) ++ codes " " ++ kind_name run.kind
    ++ codes "\n"

-- a line for each run; the first run begins at block `first`
abbrev pub run_lines : ℕ → List Run → List (List ℕ)
run_lines first [] = []
run_lines first (run ∷ others) = run_line first run ∷ run_lines (first + run.count) others

-- the last line
unfoldable pub list_end : ListTally → List ℕ
list_end tally =
    codes "sectors " ++ decimal tally.sectors ++ codes " tail " ++ decimal tally.tail ++ codes "\n"

-- the number of complete sectors, and the length of the tail
abbrev pub list_tally : List ℕ → ListTally
list_tally image = record { sectors = length (sectors image); tail = length (tail image) }

-- the complete text, if the image's first block is `base`
abbrev pub list_text : ℕ → List ℕ → List ℕ
list_text base image =
    text_of (run_lines base (runs (map kind_of (sectors image)))) ++ list_end (list_tally image)

-- the report of a listing: the line of a run is due when a sector of a different kind was read
-- after it
abbrev pub list_report : ℕ → ReportSpec ListTally
list_report base = record {
  text = list_text base;
  due = λ read. all_but_last (run_lines base (runs (map kind_of (sectors read))));
  tally = list_tally;
}
