-- An audit sector by sector, and the proof that it reports what it should for the complete image.
use Rattle.std.proofs.Common.{◌≡◌, ℕ, ◌+◌, ◌<◌, ◌==◌, Bool, true, false, not, ◌&&◌, ◌||◌, cond, count_by, List, [], ◌∷◌, ◌++◌, length, take, Option, None, Some, refl, sym, ap, ◌∙◌, subst, arith, add-zero, zero-add, add_assoc, append-nil}
use Rattle.std.specs.List.{list_all}
use Rattle.std.proofs.lemmas.Bool.Decides.{nat_tests}
use Rattle.cd_sector.specs.Consistent.{is_mode1}
use Rattle.cd_sector.specs.Defect.{defect_of, is_broken, is_nonzero, is_sound}
use Rattle.cd_sector.specs.Kind.{kind_of}
use Rattle.cd_sector.proofs.DefectLemmas.{some_nonzero}
use Rattle.cd_stream.specs.Stream.{Outgoing}
use Rattle.cd_stream.specs.Transfer.{Takes}
use Rattle.cd_report.specs.AuditText.{audit_end, audit_lines, audit_report, finding_line, found_of, findings_of, is_any, is_damage, is_damaged, finding_lines, report_of}
use Rattle.cd_report.specs.Lines.{text_of}
use Rattle.cd_report.specs.Scanning.{HasFailed, HasVisited, IsTallyOf, audit_remaining, tally_with, tally_with_all, spec_of}
use Rattle.cd_report.specs.declared.auditing.AuditTally.{AuditTally}
use Rattle.cd_report.specs.declared.findings.Findings.{Findings}
use Rattle.cd_sector.proofs.general.Counts.{count_by-cons}

-- ---- a sector is damaged if its report says that it has a defect

is_nonzero-above : (n : ℕ) → is_nonzero (1 + n) ≡ true
is_nonzero-above n = grind (arith, nat_tests)

any_broken : (words : List (ℕ × ℕ))
    → is_nonzero (count_by is_broken words) ≡ not (list_all (λ w. not (is_broken w)) words)
any_broken [] = refl
any_broken (w ∷ ws) =
    ap is_nonzero (count_by-cons is_broken w ws)
    ∙ elim (is_broken w) as
    (λ t. is_nonzero (cond t 1 0 + count_by is_broken ws)
    ≡ not (not t && list_all (λ v. not (is_broken v)) ws)) [
      | true ↦ is_nonzero-above (count_by is_broken ws)
      | false ↦ ap is_nonzero (zero-add (count_by is_broken ws)) ∙ any_broken ws
    ]

not-four : (a b c d : Bool) → (((not a || not b) || not c) || not d) ≡ not (((a && b) && c) && d)
not-four true true true d = refl
not-four true true false d = refl
not-four true false c d = refl
not-four false b c d = refl

is_damage-report : (sector : List ℕ)
    → is_damage (report_of sector) ≡ not (is_sound (defect_of sector))
unfolding report_of
is_damage-report sector =
    let d = defect_of sector in
    let all_zeros = list_all (λ b. b == 0) d.zeros in
    let columns = list_all (λ w. not (is_broken w)) d.columns in
    let diagonals = list_all (λ w. not (is_broken w)) d.diagonals in
    ap (λ t. ((t || is_nonzero d.rest) || is_nonzero (count_by is_broken d.columns)) || is_nonzero
    (count_by is_broken d.diagonals)) (sym (some_nonzero d.zeros))
    ∙ ap (λ t. ((not all_zeros || is_nonzero d.rest) || t) || is_nonzero
    (count_by is_broken d.diagonals)) (any_broken d.columns)
    ∙ ap (λ t. ((not all_zeros || is_nonzero d.rest) || not columns) || t) (any_broken d.diagonals)
    ∙ not-four all_zeros (d.rest == 0) columns diagonals

-- ---- counts with one more sector

pub findings_of-none : (block : ℕ) (s : List ℕ) → is_mode1 (kind_of s) ≡ false
    → findings_of block s ≡ None
unfolding findings_of
findings_of-none block s other = ap (λ b. cond b (Some (found_of block s)) None) other

pub findings_of-some : (block : ℕ) (s : List ℕ) → is_mode1 (kind_of s) ≡ true
    → findings_of block s ≡ Some (found_of block s)
unfolding findings_of
findings_of-some block s mode1 = ap (λ b. cond b (Some (found_of block s)) None) mode1

abbrev tally_of : ℕ → ℕ → ℕ → ℕ → ℕ → AuditTally
tally_of s m d f t = record { sectors = s; mode1 = m; damaged = d; findings = f; tail = t }

tally_of-same : (s s' m m' d d' f f' t : ℕ) → s ≡ s' → m ≡ m' → d ≡ d' → f ≡ f'
    → tally_of s m d f t ≡ tally_of s' m' d' f' t
tally_of-same s s' m m' d d' f f' t p q r u =
    ap (λ n. tally_of n m d f t) p ∙ ap (λ n. tally_of s' n d f t) q
    ∙ ap (λ n. tally_of s' m' n f t) r ∙ ap (λ n. tally_of s' m' d' n t) u

-- a count with one more sector
one_more : (n k m : ℕ) (b c : Bool) → b ≡ c → k ≡ cond b 1 0 + m → n + k ≡ n + cond c 1 0 + m
one_more n k m b c same is =
    ap (λ x. n + x) (is ∙ ap (λ t. cond t 1 0 + m) same) ∙ sym (add_assoc n (cond c 1 0) m)

one_more-none : (n k m : ℕ) (b : Bool) → b ≡ false → k ≡ cond b 1 0 + m → n + k ≡ n + m
one_more-none n k m b none is = ap (λ x. n + x) (is ∙ ap (λ t. cond t 1 0 + m) none ∙ zero-add m)

-- the counts of more sectors, one sector further
pub tally_with_all-step : (tally : AuditTally) (block : ℕ) (s : List ℕ) (others : List (List ℕ))
    (left : ℕ)
    → tally_with_all tally block (s ∷ others) left
    ≡ tally_with_all (tally_with tally (findings_of block s)) (block + 1) others left
tally_with_all-step tally block s others left =
    elim (is_mode1 (kind_of s)) as
    (λ t. is_mode1 (kind_of s) ≡ t
    → tally_with_all tally block (s ∷ others) left
    ≡ tally_with_all (tally_with tally (findings_of block s)) (block + 1) others left) [
      | true ↦ λ mode1.
          let found = findings_of-some block s mode1 in
          tally_of-same _ _ _ _ _ _ _ _ left (omega arith)
          (one_more tally.mode1 _ _ (is_mode1 (kind_of s)) true mode1
          (count_by-cons (λ x. is_mode1 (kind_of x)) s others))
          (one_more tally.damaged _ _ (is_damaged s) (is_damage (report_of s))
          (ap (λ b. b && not (is_sound (defect_of s))) mode1 ∙ sym (is_damage-report s))
          (count_by-cons is_damaged s others))
          (one_more tally.findings _ _ (is_any (findings_of block s))
          (is_any (Some (found_of block s))) (ap is_any found) refl)
          ∙ ap (λ f. tally_with_all (tally_with tally f) (block + 1) others left) (sym found)
      | false ↦ λ other.
          let found = findings_of-none block s other in
          tally_of-same _ _ _ _ _ _ _ _ left (omega arith)
          (one_more-none tally.mode1 _ _ (is_mode1 (kind_of s)) other
          (count_by-cons (λ x. is_mode1 (kind_of x)) s others))
          (one_more-none tally.damaged _ _ (is_damaged s)
          (ap (λ b. b && not (is_sound (defect_of s))) other) (count_by-cons is_damaged s others))
          (one_more-none tally.findings _ _ (is_any (findings_of block s)) (ap is_any found) refl)
          ∙ ap (λ f. tally_with_all (tally_with tally f) (block + 1) others left) (sym found)
    ] refl

tally_with-sectors : (tally : AuditTally) (found : Option Findings)
    → (tally_with tally found).sectors ≡ tally.sectors + 1
tally_with-sectors tally None = refl
tally_with-sectors tally (Some found) = refl

-- a sector has at most one line
one_line : (block : ℕ) (found : Option Findings) → 0 < length (text_of (finding_lines block found))
    → (line : List ℕ) × (finding_lines block found ≡ line ∷ [])
one_line block None some = absurd (omega arith)
one_line block (Some found) some =
    elim (is_any (Some found)) as
    (λ t. 0 < length (text_of (cond t (finding_line block found ∷ []) []))
    → (line : List ℕ) × (cond t (finding_line block found ∷ []) [] ≡ line ∷ [])) [
      | true ↦ λ _. (finding_line block found, refl)
      | false ↦ λ h. absurd (omega arith)
    ] some

-- ---- the pass

module _ (base : ℕ) (tally : AuditTally) (sector : List ℕ) (out out' : Outgoing) where
  abbrev block : ℕ
  block = base + tally.sectors

  line_taken : (next : AuditTally) → next ≡ tally_with tally (findings_of block sector)
      → Takes out out' (text_of (finding_lines block (findings_of block sector)))
      → HasVisited (audit_remaining base tally) (audit_remaining base next) sector out out'
  line_taken next is went =
      subst (λ t. HasVisited (audit_remaining base tally) (audit_remaining base t) sector out out')
      (sym is) (record {
        sent = finding_lines block (findings_of block sector);
        takes = went;
        lines =
            λ others. ap
            (λ b. finding_lines block (findings_of block sector) ++ audit_lines b others) further;
        end = λ others left. ap audit_end (all others left);
        tally = all;
        nothing_due = refl;
      })
    where
      further : block + 1 ≡ base + (tally_with tally (findings_of block sector)).sectors
      further =
          let sectors_is = tally_with-sectors tally (findings_of block sector) in
          omega (arith, sectors_is)

      all : (others : List (List ℕ)) (left : ℕ) → tally_with_all tally block (sector ∷ others) left
          ≡ tally_with_all (tally_with tally (findings_of block sector))
          (base + (tally_with tally (findings_of block sector)).sectors) others left
      all others left =
          tally_with_all-step tally block sector others left
          ∙ ap (λ b. tally_with_all (tally_with tally (findings_of block sector)) b others left)
          further

  line_failed : (n : ℕ) × (n < length (text_of (finding_lines block (findings_of block sector))))
      × Takes out out' (take n (text_of (finding_lines block (findings_of block sector))))
      → HasFailed (audit_remaining base tally) sector out out'
  line_failed went =
      let one = one_line block (findings_of block sector) (omega (arith, went.1)) in
      record {
        line = one.0;
        count = went.0;
        after = λ others. audit_lines (block + 1) others;
        takes =
            subst (λ t. Takes out out' (take went.0 t))
            (ap text_of one.1 ∙ append-nil one.0) went.2;
        cut = subst (λ t. went.0 < length t) (ap text_of one.1 ∙ append-nil one.0) went.1;
        lines = λ others. ap (λ ls. ls ++ audit_lines (block + 1) others) one.1;
        last = refl;
      }

-- the same, in terms of the findings of the sector
module _ (base : ℕ) (tally : AuditTally) (sector : List ℕ) (out out' : Outgoing) (count : ℕ)
    (is : IsTallyOf tally count) (found : Option Findings)
    (found_is : found ≡ findings_of (base + count) sector) where
  found_there : found ≡ findings_of (base + tally.sectors) sector
  found_there = found_is ∙ ap (λ n. findings_of (base + n) sector) (sym is.sectors)

  line_there : finding_lines (base + count) found
      ≡ finding_lines (base + tally.sectors) (findings_of (base + tally.sectors) sector)
  line_there =
      ap (λ n. finding_lines (base + n) found) (sym is.sectors)
      ∙ ap (finding_lines (base + tally.sectors)) found_there

  pub Audit-visited : (next : AuditTally) → next ≡ tally_with tally found
      → Takes out out' (text_of (finding_lines (base + count) found))
      → HasVisited (audit_remaining base tally) (audit_remaining base next) sector out out'
  Audit-visited next next_is went =
      line_taken base tally sector out out' next (next_is ∙ ap (tally_with tally) found_there)
      (subst (λ ls. Takes out out' (text_of ls)) line_there went)

  pub Audit-failed : (n : ℕ) × (n < length (text_of (finding_lines (base + count) found)))
      × Takes out out' (take n (text_of (finding_lines (base + count) found)))
      → HasFailed (audit_remaining base tally) sector out out'
  Audit-failed went =
      line_failed base tally sector out out'
      (subst (λ ls. (n : ℕ) × (n < length (text_of ls)) × Takes out out' (take n (text_of ls)))
      line_there went)

-- the counts at the end, when no sector follows
pub audit_end_is : (tally : AuditTally) (first left : ℕ)
    → tally_with_all tally first [] left ≡ record tally { tail = left }
audit_end_is tally first left = simp add-zero

-- ---- the complete image

abbrev pub none_yet : AuditTally
none_yet = record { sectors = 0; mode1 = 0; damaged = 0; findings = 0; tail = 0 }

-- an audit from the first sector on is the complete report
pub Auditing-is : (base : ℕ) → spec_of (audit_remaining base none_yet) ≡ audit_report base
Auditing-is base = simp (add-zero, zero-add)
