-- The largest sizes of the texts of `list` and `audit`, line by line.
use Rattle.std.proofs.Common.{◌≡◌, ℕ, ◌+◌, ◌-◌, ◌*◌, ◌/◌, ◌<◌, ◌≤◌, Bool, true, false, List, [], ◌∷◌, ◌++◌, length, length-append, map, ap, ◌∙◌, refl, arith, lit<, None, Some}
use Rattle.std.specs.Prelude.{codes, cond, count_by, decimal}
use Rattle.std.proofs.lemmas.Fmt.{length-decimal-le}
use Rattle.std.proofs.lemmas.Grind.{flat_map-append}
use Rattle.std.proofs.lemmas.List.{length-map}
use Rattle.std.proofs.lemmas.List.Sums.{count_by-le-length}
use Rattle.cd_sector.specs.Consistent.{is_mode1}
use Rattle.cd_sector.specs.Defect.{is_nonzero}
use Rattle.cd_sector.specs.Image.{base_limit, image_limit, sector_limit, sectors, tail}
use Rattle.cd_sector.specs.Kind.{kind_of}
use Rattle.cd_sector.specs.declared.kinds.SectorKind.{SectorKind}
use Rattle.cd_sector.specs.declared.kinds.SectorKind.TheVariants.{NoSync, Mode0, Mode1, Mode2, Other}
use Rattle.cd_sector.proofs.ImageLemmas.{IsCut-sectors}
use Rattle.cd_sector.proofs.general.Chunks.{length-first_chunks}
use Rattle.cd_report.specs.AuditText.{audit_end, audit_lines, audit_tally, count_if, finding_line, findings_of, found_of, is_any, is_damaged, finding_lines, name_if, report_of}
use Rattle.cd_report.specs.Lines.{text_of}
use Rattle.cd_report.specs.ListText.{kind_name, list_end, list_tally, run_line, run_lines}
use Rattle.cd_report.specs.Runs.{Run, prepend_kind, runs, same_kind}
use Rattle.cd_report.specs.declared.findings.Findings.{Findings}
use Rattle.cd_report.proofs.LineCountLemmas.{p-le, q-le}
use Rattle.cd_c.specs.EnoughRoom.{TextsAreShort}

ten : (n : ℕ) → n < 10000000000 → length (decimal n) ≤ 10
ten n h = length-decimal-le 10 n (lit< tt) (omega arith) (omega arith)

seven : (n : ℕ) → n < 10000000 → length (decimal n) ≤ 7
seven n h = length-decimal-le 7 n (lit< tt) (omega arith) (omega arith)

three : (n : ℕ) → n < 1000 → length (decimal n) ≤ 3
three n h = length-decimal-le 3 n (lit< tt) (omega arith) (omega arith)

-- ---- the sectors of an image

sectors-count : (image : List ℕ) → length (sectors image) ≡ length image / 2352
unfolding sectors
sectors-count image = length-first_chunks 2352 (length image / 2352) image

-- ---- `list`

name-short : (kind : SectorKind) → length (kind_name kind) ≤ 6
unfolding kind_name
name-short NoSync = omega arith
name-short Mode0 = omega arith
name-short Mode1 = omega arith
name-short Mode2 = omega arith
name-short Other = omega arith

run_line-short : (first : ℕ) (run : Run) → first + run.count < 10000000000
    → length (run_line first run) ≤ 40
unfolding run_line
run_line-short first run h =
    let last = first + run.count - 1 in
    let dash = codes "-" in
    let space = codes " " in
    omega (
      arith,
      ten first (omega arith),
      ten last (omega arith),
      name-short run.kind,
      length-append ((((decimal first ++ dash) ++ decimal last) ++ space) ++ kind_name run.kind) (codes "\n"),
      length-append (((decimal first ++ dash) ++ decimal last) ++ space) (kind_name run.kind),
      length-append ((decimal first ++ dash) ++ decimal last) space,
      length-append (decimal first ++ dash) (decimal last),
      length-append (decimal first) dash,
    )

-- the number of sectors in runs
abbrev sector_sum : List Run → ℕ
sector_sum [] = 0
sector_sum (run ∷ others) = run.count + sector_sum others

run_lines-short : (first : ℕ) (rs : List Run) → first + sector_sum rs < 10000000000
    → length (text_of (run_lines first rs)) ≤ 40 * length rs
run_lines-short first [] h = omega arith
run_lines-short first (run ∷ others) h =
    omega (
      arith,
      length-append (run_line first run) (text_of (run_lines (first + run.count) others)),
      run_line-short first run (omega arith),
      run_lines-short (first + run.count) others (omega arith),
    )

-- runs with one more sector before them, by whether it is of the first run's kind
abbrev joined : SectorKind → Run → List Run → Bool → List Run
joined kind run others same =
    cond same (record { kind = kind; count = run.count + 1 } ∷ others)
    (record { kind = kind; count = 1 } ∷ run ∷ others)

prepend-sum : (kind : SectorKind) (rs : List Run)
    → (sector_sum (prepend_kind kind rs) ≡ 1 + sector_sum rs)
    × (length (prepend_kind kind rs) ≤ 1 + length rs)
prepend-sum kind [] = (omega arith, omega arith)
prepend-sum kind (run ∷ others) = by_test (same_kind kind run.kind)
  where
    by_test : (b : Bool) → (sector_sum (joined kind run others b) ≡ 1 + sector_sum (run ∷ others))
        × (length (joined kind run others b) ≤ 1 + length (run ∷ others))
    by_test true = (omega arith, omega arith)
    by_test false = (omega arith, omega arith)

runs-sum : (kinds : List SectorKind)
    → (sector_sum (runs kinds) ≡ length kinds) × (length (runs kinds) ≤ length kinds)
runs-sum [] = (refl, omega arith)
runs-sum (kind ∷ others) =
    let rest = runs-sum others in
    let step = prepend-sum kind (runs others) in
    (omega (arith, rest.0, step.0), omega (arith, rest.1, step.1))

list-short : (base : ℕ) (image : List ℕ) → base ≤ base_limit → length image ≤ image_limit
    → length (text_of (run_lines base (runs (map kind_of (sectors image)))) ++ list_end (list_tally image))
    ≤ 100 + 40 * (length image / 2352)
unfolding list_end
list-short base image low within =
    let kinds = map kind_of (sectors image) in
    let count : length kinds ≡ length image / 2352 =
    length-map (sectors image) kind_of ∙ sectors-count image in
    let sums = runs-sum kinds in
    let lines = run_lines-short base (runs kinds) (omega (arith, sums.0, count, low, within)) in
    let rest = (IsCut-sectors image).short in
    let first = codes "sectors " in
    let second = codes " tail " in
    let a = length (sectors image) in
    let b = length (tail image) in
    omega (
      arith,
      lines,
      sums.1,
      count,
      sectors-count image,
      ten a (omega (arith, sectors-count image, within)),
      ten b (omega (arith, rest)),
      length-append (text_of (run_lines base (runs kinds)))
          ((((first ++ decimal a) ++ second) ++ decimal b) ++ codes "\n"),
      length-append (((first ++ decimal a) ++ second) ++ decimal b) (codes "\n"),
      length-append ((first ++ decimal a) ++ second) (decimal b),
      length-append (first ++ decimal a) second,
      length-append first (decimal a),
    )

-- ---- `audit`

name_if-short : (found : Bool) (name : List ℕ) → length (name_if found name) ≤ length name
name_if-short true name = omega arith
name_if-short false name = omega arith

count_if-short : (name : List ℕ) (count : ℕ) → count < 1000
    → length (count_if name count) ≤ length name + 3
count_if-short name count few = by_test (is_nonzero count)
  where
    by_test : (b : Bool) → length (cond b (name ++ decimal count) []) ≤ length name + 3
    by_test true = omega (arith, length-append name (decimal count), three count few)
    by_test false = omega arith

finding_line-short : (block : ℕ) (found : Findings) → block < 10000000 → found.defect.p < 1000
    → found.defect.q < 1000 → length (finding_line block found) ≤ 40
unfolding finding_line
finding_line-short block found low few many =
    let a = decimal block in
    let b = name_if found.address (codes " address") in
    let c = name_if found.defect.zeros (codes " zeros") in
    let d = name_if found.defect.edc (codes " edc") in
    let e = count_if (codes " p=") found.defect.p in
    let f = count_if (codes " q=") found.defect.q in
    omega (
      arith,
      seven block low,
      name_if-short found.address (codes " address"),
      name_if-short found.defect.zeros (codes " zeros"),
      name_if-short found.defect.edc (codes " edc"),
      count_if-short (codes " p=") found.defect.p few,
      count_if-short (codes " q=") found.defect.q many,
      length-append (((((a ++ b) ++ c) ++ d) ++ e) ++ f) (codes "\n"),
      length-append ((((a ++ b) ++ c) ++ d) ++ e) f,
      length-append (((a ++ b) ++ c) ++ d) e,
      length-append ((a ++ b) ++ c) d,
      length-append (a ++ b) c,
      length-append a b,
    )

-- there are 86 columns and 52 diagonals
words-few : (sector : List ℕ) → ((report_of sector).p < 1000) × ((report_of sector).q < 1000)
words-few sector = (omega (arith, p-le sector), omega (arith, q-le sector))

finding_lines-short : (block : ℕ) (sector : List ℕ) → block < 10000000
    → length (text_of (finding_lines block (findings_of block sector))) ≤ 40
unfolding findings_of
finding_lines-short block sector low = by_kind (is_mode1 (kind_of sector))
  where
    found : Findings
    found = found_of block sector

    by_any : (b : Bool) → length (text_of (cond b (finding_line block found ∷ []) [])) ≤ 40
    by_any true =
        omega (
          arith,
          length-append (finding_line block found) [],
          finding_line-short block found low (words-few sector).0 (words-few sector).1,
        )
    by_any false = omega arith

    by_kind : (b : Bool) → length (text_of (finding_lines block (cond b (Some found) None))) ≤ 40
    by_kind true = by_any (is_any (Some found))
    by_kind false = omega arith

audit_lines-short : (block : ℕ) (ss : List (List ℕ)) → block + length ss < 10000000
    → length (text_of (audit_lines block ss)) ≤ 40 * length ss
audit_lines-short block [] h = omega arith
audit_lines-short block (sector ∷ others) h =
    let here = finding_lines block (findings_of block sector) in
    let rest = audit_lines (block + 1) others in
    omega (
      arith,
      ap length (flat_map-append (λ line. line) here rest),
      length-append (text_of here) (text_of rest),
      finding_lines-short block sector (omega arith),
      audit_lines-short (block + 1) others (omega arith),
    )

audit-short : (base : ℕ) (image : List ℕ) → base ≤ base_limit → length image ≤ image_limit
    → length (text_of (audit_lines base (sectors image)) ++ audit_end (audit_tally base image))
    ≤ 100 + 40 * (length image / 2352)
unfolding audit_end
audit-short base image low within =
    let ss = sectors image in
    let count = sectors-count image in
    let a = length ss in
    let b = count_by (λ sector. is_mode1 (kind_of sector)) ss in
    let c = count_by is_damaged ss in
    let d = length (tail image) in
    let most : a ≤ sector_limit = omega (arith, count, within) in
    let first = codes "sectors " in
    let second = codes " mode1 " in
    let third = codes " damaged " in
    let fourth = codes " tail " in
    omega (
      arith,
      count,
      audit_lines-short base ss (omega (arith, low, most)),
      ten a (omega (arith, most)),
      ten b (omega (arith, most, count_by-le-length (λ sector. is_mode1 (kind_of sector)) ss)),
      ten c (omega (arith, most, count_by-le-length is_damaged ss)),
      ten d (omega (arith, (IsCut-sectors image).short)),
      length-append (text_of (audit_lines base ss))
          ((((((((first ++ decimal a) ++ second) ++ decimal b) ++ third) ++ decimal c) ++ fourth) ++ decimal d)
          ++ codes "\n"),
      length-append
          (((((((first ++ decimal a) ++ second) ++ decimal b) ++ third) ++ decimal c) ++ fourth) ++ decimal d)
          (codes "\n"),
      length-append ((((((first ++ decimal a) ++ second) ++ decimal b) ++ third) ++ decimal c) ++ fourth)
          (decimal d),
      length-append (((((first ++ decimal a) ++ second) ++ decimal b) ++ third) ++ decimal c) fourth,
      length-append ((((first ++ decimal a) ++ second) ++ decimal b) ++ third) (decimal c),
      length-append (((first ++ decimal a) ++ second) ++ decimal b) third,
      length-append ((first ++ decimal a) ++ second) (decimal b),
      length-append (first ++ decimal a) second,
      length-append first (decimal a),
    )

pub texts-short : TextsAreShort
texts-short base image low within = (list-short base image low within, audit-short base image low within)
