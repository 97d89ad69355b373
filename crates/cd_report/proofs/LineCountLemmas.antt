-- The number of lines in the text of an audit.
use Rattle.std.proofs.Common.{◌≡◌, ℕ, ◌+◌, ◌%◌, ◌^◌, ◌<◌, ◌≤◌, ◌==◌, Bool, true, false, cond, codes, decimal, List, [], ◌∷◌, ◌++◌, length, Some, refl, sym, ap, ◌∙◌, subst, arith, zero-add, append-nil}
use Rattle.std.proofs.lemmas.Bool.Decides.{nat_tests}
use Rattle.std.proofs.lemmas.Fmt.{decimal_by_steps}
use Rattle.std.proofs.lemmas.List.Sums.{count_by-le-length, sum_by-append}
use Rattle.cd_code.specs.CodeWords.{column_of, diagonal_of}
use Rattle.cd_sector.specs.Consistent.{is_mode1}
use Rattle.cd_sector.specs.Defect.{all_syndromes, defect_of, is_broken, is_nonzero}
use Rattle.cd_sector.specs.Kind.{kind_of}
use Rattle.cd_report.specs.AuditText.{audit_end, audit_lines, audit_tally, audit_text, count_if, finding_count, finding_line, found_of, findings_of, is_any, is_damaged, finding_lines, name_if, report_of}
use Rattle.cd_sector.specs.Image.{base_limit, image_limit, sectors}
use Rattle.cd_report.specs.Lines.{line_count, text_of}
use Rattle.cd_report.specs.declared.auditing.AuditTally.{AuditTally}
use Rattle.cd_report.specs.declared.findings.Findings.{Findings}
use Rattle.cd_report.proofs.AuditLemmas.{findings_of-none, findings_of-some}
use Rattle.cd_sector.proofs.general.Counts.{count_by-cons}
use Rattle.cd_sector.proofs.DefectLemmas.{length-syndromes}
use Rattle.cd_sector.proofs.ImageLemmas.{length-sectors-le, length-tail-le}
use Rattle.cd_report.proofs.ScanLemmas.{text_of-append}

line_count-append : (front after : List ℕ)
    → line_count (front ++ after) ≡ line_count front + line_count after
line_count-append front after = sum_by-append (λ b. cond (b == 10) 1 0) front after

-- a front in which no line ends adds no line
line_count-after : (front after : List ℕ) → line_count front ≡ 0
    → line_count (front ++ after) ≡ line_count after
line_count-after front after none =
    line_count-append front after ∙ ap (λ n. n + line_count after) none
    ∙ zero-add (line_count after)

-- ---- numbers and names

digit-no_end : (d : ℕ) → line_count ((48 + d) ∷ []) ≡ 0
digit-no_end d =
    let other : ((48 + d) == 10) ≡ false = grind (arith, nat_tests) in
    count_by-cons (λ b. b == 10) (48 + d) [] ∙ ap (λ t. cond t 1 0 + 0) other

line_count-decimal : (n : ℕ) → n < 2 ^ 64 → line_count (decimal n) ≡ 0
line_count-decimal =
    decimal_by_steps (λ m ds. line_count ds ≡ 0) (λ m l. digit-no_end m)
    (λ m ds l h. line_count-after ds ((48 + m % 10) ∷ []) h ∙ digit-no_end (m % 10))

line_count-name : (found : Bool) (name : List ℕ) → line_count name ≡ 0
    → line_count (name_if found name) ≡ 0
line_count-name true name none = none
line_count-name false name none = refl

line_count-count : (name : List ℕ) (n : ℕ) → line_count name ≡ 0 → n < 2 ^ 64
    → line_count (count_if name n) ≡ 0
line_count-count name n none small =
    elim (is_nonzero n) as (λ t. line_count (cond t (name ++ decimal n) []) ≡ 0) [
      | true ↦ line_count-after name (decimal n) none ∙ line_count-decimal n small
      | false ↦ refl
    ]

-- ---- one line each

-- no line ends in two parts if none ends in either
none_in_both : (x y : List ℕ) → line_count x ≡ 0 → line_count y ≡ 0 → line_count (x ++ y) ≡ 0
none_in_both x y in_x in_y = line_count-after x y in_x ∙ in_y

module _ (a b c d e f : List ℕ) (in_a : line_count a ≡ 0) (in_b : line_count b ≡ 0)
    (in_c : line_count c ≡ 0) (in_d : line_count d ≡ 0) (in_e : line_count e ≡ 0)
    (in_f : line_count f ≡ 0) where
  none_in_six : line_count (a ++ b ++ c ++ d ++ e ++ f) ≡ 0
  none_in_six =
      none_in_both (a ++ b ++ c ++ d ++ e) f
      (none_in_both (a ++ b ++ c ++ d) e
      (none_in_both (a ++ b ++ c) d (none_in_both (a ++ b) c (none_in_both a b in_a in_b) in_c)
      in_d) in_e) in_f

line_count-finding : (block : ℕ) (found : Findings) → block < 2 ^ 64 → found.defect.p < 2 ^ 64
    → found.defect.q < 2 ^ 64 → line_count (finding_line block found) ≡ 1
unfolding finding_line
line_count-finding block found low few_p few_q =
    let a = decimal block in
    let b = name_if found.address (codes " address") in
    let c = name_if found.defect.zeros (codes " zeros") in
    let d = name_if found.defect.edc (codes " edc") in
    let e = count_if (codes " p=") found.defect.p in
    let f = count_if (codes " q=") found.defect.q in
    line_count-after (a ++ b ++ c ++ d ++ e ++ f) (codes "\n")
    (none_in_six a b c d e f (line_count-decimal block low)
    (line_count-name found.address (codes " address") refl)
    (line_count-name found.defect.zeros (codes " zeros") refl)
    (line_count-name found.defect.edc (codes " edc") refl)
    (line_count-count (codes " p=") found.defect.p refl few_p)
    (line_count-count (codes " q=") found.defect.q refl few_q))

line_count-end : (tally : AuditTally) → tally.sectors < 2 ^ 64 → tally.mode1 < 2 ^ 64
    → tally.damaged < 2 ^ 64 → tally.tail < 2 ^ 64 → line_count (audit_end tally) ≡ 1
unfolding audit_end
line_count-end tally s m d t =
    let six =
    codes "sectors " ++ decimal tally.sectors ++ codes " mode1 " ++ decimal tally.mode1
    ++ codes " damaged " ++ decimal tally.damaged in
    line_count-after (six ++ codes " tail " ++ decimal tally.tail) (codes "\n")
    (none_in_both (six ++ codes " tail ") (decimal tally.tail) (none_in_both six (codes " tail ")
    (none_in_six (codes "sectors ") (decimal tally.sectors) (codes " mode1 ") (decimal tally.mode1)
    (codes " damaged ") (decimal tally.damaged)
    refl (line_count-decimal tally.sectors s) refl (line_count-decimal tally.mode1 m) refl
    (line_count-decimal tally.damaged d)) refl) (line_count-decimal tally.tail t))

-- ---- the lines of sectors

pub p-le : (s : List ℕ) → (report_of s).p ≤ 86
unfolding report_of defect_of
p-le s =
    let few = count_by-le-length is_broken (all_syndromes (column_of s) 86) in
    omega (arith, few, length-syndromes (column_of s) 86)

pub q-le : (s : List ℕ) → (report_of s).q ≤ 52
unfolding report_of defect_of
q-le s =
    let few = count_by-le-length is_broken (all_syndromes (diagonal_of s) 52) in
    omega (arith, few, length-syndromes (diagonal_of s) 52)

line_count-sector : (block : ℕ) (s : List ℕ) → block < 2 ^ 64
    → line_count (text_of (finding_lines block (findings_of block s)))
    ≡ cond (is_any (findings_of block s)) 1 0
line_count-sector block s low =
    elim (is_mode1 (kind_of s)) as
    (λ t. is_mode1 (kind_of s) ≡ t
    → line_count (text_of (finding_lines block (findings_of block s)))
    ≡ cond (is_any (findings_of block s)) 1 0) [
      | true ↦
          λ mode1. subst (λ f. line_count (text_of (finding_lines block f)) ≡ cond (is_any f) 1 0)
          (sym (findings_of-some block s mode1)) of_found
      | false ↦
          λ other. subst (λ f. line_count (text_of (finding_lines block f)) ≡ cond (is_any f) 1 0)
          (sym (findings_of-none block s other)) refl
    ] refl
  where
    of_found : line_count (text_of (finding_lines block (Some (found_of block s))))
        ≡ cond (is_any (Some (found_of block s))) 1 0
    of_found =
        elim (is_any (Some (found_of block s))) as
        (λ t. line_count (text_of (cond t (finding_line block (found_of block s) ∷ []) []))
        ≡ cond t 1 0) [
          | true ↦
              let p = p-le s in
              let q = q-le s in
              ap line_count (append-nil (finding_line block (found_of block s)))
              ∙ line_count-finding block (found_of block s) low (omega (arith, p))
              (omega (arith, q))
          | false ↦ refl
        ]

line_count-lines : (block : ℕ) (ss : List (List ℕ)) → block + length ss < 2 ^ 64
    → line_count (text_of (audit_lines block ss)) ≡ finding_count block ss
line_count-lines block [] low = refl
line_count-lines block (s ∷ ss) low =
    let here = finding_lines block (findings_of block s) in
    let there = audit_lines (block + 1) ss in
    ap line_count (text_of-append here there) ∙ line_count-append (text_of here) (text_of there)
    ∙ ap (λ n. n + line_count (text_of there)) (line_count-sector block s (omega arith))
    ∙ ap (λ n. cond (is_any (findings_of block s)) 1 0 + n)
    (line_count-lines (block + 1) ss (omega arith))

pub line_count-audit : (base : ℕ) (image : List ℕ) → base ≤ base_limit → length image ≤ image_limit
    → line_count (audit_text base image) ≡ (audit_tally base image).findings + 1
line_count-audit base image low few =
    let ss = sectors image in
    let count = length-sectors-le image in
    let left = length-tail-le image in
    let mode1 = count_by-le-length (λ sector. is_mode1 (kind_of sector)) ss in
    let damaged = count_by-le-length is_damaged ss in
    line_count-append (text_of (audit_lines base ss)) (audit_end (audit_tally base image))
    ∙ ap (λ n. n + line_count (audit_end (audit_tally base image)))
    (line_count-lines base ss (omega (arith, count)))
    ∙ ap (λ n. finding_count base ss + n)
    (line_count-end (audit_tally base image) (omega (arith, count)) (omega (arith, mode1, count))
    (omega (arith, damaged, count)) (omega (arith, left)))
