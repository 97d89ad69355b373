-- A listing sector by sector, and the proof that it reports what it should for the complete image.
use Rattle.std.proofs.Common.{◌≡◌, ℕ, suc, ◌+◌, List, [], ◌∷◌, ◌++◌, length, map, Option, None, Some, Result, Ok, Err, refl, sym, ap, ◌∙◌, subst, arith, add-zero, zero-add, append-nil, append_assoc}
use Rattle.cd_sector.specs.Kind.{kind_of}
use Rattle.cd_stream.specs.Stream.{Outgoing}
use Rattle.cd_stream.specs.declared.sink.SinkFailed.{SinkFailed}
use Rattle.cd_report.specs.Lines.{all_but_last, text_of}
use Rattle.cd_report.specs.ListText.{list_end, list_report, run_line, run_lines}
use Rattle.cd_report.specs.OpenRun.{open_first, open_kinds}
use Rattle.cd_report.specs.Runs.{Run, runs}
use Rattle.cd_report.specs.Scanning.{HasFailed, FailsToExtend, HasVisited, HasExtended, Visits, ExtendsRun, ended_lines, last_line, list_remaining, spec_of}
use Rattle.cd_report.specs.declared.listing.ListTally.{ListTally}
use Rattle.cd_report.specs.declared.listing.OpenRun.{OpenRun}
use Rattle.cd_report.proofs.OpenRunLemmas.{nothing_ended}

abbrev pub tally_of : ℕ → ℕ → ListTally
tally_of count left = record { sectors = count; tail = left }

module _ (base : ℕ) (run : Option OpenRun) (count : ℕ) (sector : List ℕ) (out out' : Outgoing) where
  List-taken : (next : OpenRun) → HasExtended run next (base + count) (kind_of sector) out out'
      → HasVisited (list_remaining base run count)
      (list_remaining base (Some next) (count + 1)) sector out out'
  List-taken next taken = record {
    sent = taken.sent;
    takes = taken.takes;
    lines = λ others. taken.lines (map kind_of others);
    end = λ others left.
        ap (λ l. l ++ list_end (tally_of (count + suc (length others)) left))
        (taken.end (map kind_of others))
        ∙ ap (λ n. last_line next.first (runs (open_kinds (Some next) ++ map kind_of others))
        ++ list_end (tally_of n left)) (further others);
    tally = λ others left. ap (λ n. tally_of n left) (further others);
    nothing_due = nothing_ended next taken.ends.0;
  }
    where
      further : (others : List (List ℕ)) → count + suc (length others) ≡ count + 1 + length others
      further others = omega arith

  List-failed : FailsToExtend run (base + count) (kind_of sector) out out'
      → HasFailed (list_remaining base run count) sector out out'
  List-failed failed = record {
    line = failed.line;
    count = failed.count;
    after = λ others. ended_lines (base + count) (kind_of sector ∷ map kind_of others);
    takes = failed.takes;
    cut = failed.cut;
    lines = λ others. failed.lines (map kind_of others);
    last = refl;
  }

  pub List-visits : (run' : Option OpenRun) (result : Result (Unit {0}) SinkFailed)
      → ExtendsRun run run' (base + count) (kind_of sector) out out' result
      → Visits (list_remaining base run count)
      (list_remaining base run' (count + 1)) sector out out' result
  List-visits run' (Ok x) taken =
      subst (λ r. HasVisited (list_remaining base run count) (list_remaining base r (count + 1))
      sector out out') (sym taken.1) (List-taken taken.0 taken.2)
  List-visits run' (Err e) failed = List-failed failed.1

-- the bytes written at the end, when no sector follows
pub list_end_is : (base : ℕ) (run : Option OpenRun) (count left : ℕ)
    → last_line (open_first run 0) (runs (open_kinds run)) ++ list_end (tally_of count left)
    ≡ (list_remaining base run count).end [] left
list_end_is base None count left = ap (λ n. list_end (tally_of n left)) (sym (add-zero count))
list_end_is base (Some run) count left =
    ap (λ ks. last_line run.first (runs ks) ++ list_end (tally_of count left))
    (sym (append-nil (open_kinds (Some run))))
    ∙ ap (λ n. last_line run.first (runs (open_kinds (Some run) ++ []))
    ++ list_end (tally_of n left)) (sym (add-zero count))

-- ---- the complete image

last-apart : (first : ℕ) (rs : List Run)
    → text_of (run_lines first rs)
    ≡ text_of (all_but_last (run_lines first rs)) ++ last_line first rs
last-apart first [] = refl
last-apart first (run ∷ []) = append-nil (run_line first run)
last-apart first (run ∷ next ∷ others) =
    ap (λ t. run_line first run ++ t) (last-apart (first + run.count) (next ∷ others))
    ∙ sym (append_assoc (run_line first run)
    (text_of (all_but_last (run_lines (first + run.count) (next ∷ others))))
    (last_line (first + run.count) (next ∷ others)))

-- a listing from the first sector on is the complete report
pub Listing-is : (base : ℕ) → spec_of (list_remaining base None 0) ≡ list_report base
Listing-is base = simp (add-zero, zero-add, ← append_assoc, ← last-apart)
