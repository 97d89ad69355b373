-- The text that results from an open run and the kinds after it.
use Rattle.std.proofs.Common.{◌≡◌, ℕ, zero, suc, ◌+◌, ◌-◌, ◌<◌, ◌≤◌, List, [], ◌∷◌, ◌++◌, length, replicate, take, Option, Some, refl, sym, ap, ◌∙◌, subst, arith, append-nil}
use Rattle.cd_sector.specs.declared.kinds.SectorKind.{SectorKind}
use Rattle.cd_stream.specs.Stream.{Outgoing}
use Rattle.cd_stream.specs.Transfer.{Takes}
use Rattle.cd_stream.proofs.TransferLemmas.{Takes-nil}
use Rattle.cd_report.specs.Lines.{all_but_last}
use Rattle.cd_report.specs.ListText.{run_line, run_lines}
use Rattle.cd_report.specs.OpenRun.{EndsBefore, open_first, open_kinds}
use Rattle.cd_report.specs.Runs.{Run, runs}
use Rattle.cd_report.specs.Scanning.{FailsToExtend, HasExtended, ended_lines, last_line}
use Rattle.cd_report.specs.declared.listing.OpenRun.{OpenRun}
use Rattle.cd_report.proofs.RunLemmas.{IsOther, put_before-begins, runs-run}

replicate-after : (n : ℕ) (kind : SectorKind) (others : List SectorKind)
    → replicate n kind ++ kind ∷ others ≡ replicate (suc n) kind ++ others
replicate-after zero kind others = refl
replicate-after (suc n) kind others = ap (λ l. kind ∷ l) (replicate-after n kind others)

-- a run of one sector
kinds-new : (block : ℕ) (kind : SectorKind) (others : List SectorKind)
    → kind ∷ others ≡ replicate (block + 1 - block) kind ++ others
kinds-new block kind others =
    let one : 1 ≡ block + 1 - block = omega arith in
    ap (λ n. replicate n kind ++ others) one

-- more runs after a run
lines-more : (line : List ℕ) (block : ℕ) (rs : List Run) (run : Run) (others : List Run)
    → rs ≡ run ∷ others
    → all_but_last (line ∷ run_lines block rs) ≡ line ∷ all_but_last (run_lines block rs)
lines-more line block rs run others is =
    subst (λ l. all_but_last (line ∷ run_lines block l) ≡ line ∷ all_but_last (run_lines block l))
    (sym is) refl

last-more : (first : ℕ) (before : Run) (rs : List Run) (run : Run) (others : List Run)
    → rs ≡ run ∷ others → last_line first (before ∷ rs) ≡ last_line (first + before.count) rs
last-more first before rs run others is =
    subst (λ l. last_line first (before ∷ l) ≡ last_line (first + before.count) l) (sym is) refl

-- the run and the line of an open run
abbrev pub run_of : OpenRun → Run
run_of run = record { kind = run.kind; count = run.last + 1 - run.first }

abbrev pub line_of : OpenRun → List ℕ
line_of run = run_line run.first (run_of run)

abbrev kinds_of : OpenRun → List SectorKind
kinds_of run = replicate (run.last + 1 - run.first) run.kind

runs-open : (run : OpenRun) (others : List SectorKind) → run.first ≤ run.last
    → IsOther run.kind others → runs (kinds_of run ++ others) ≡ run_of run ∷ runs others
runs-open run others ordered other =
    let count : run.last + 1 - run.first ≡ suc (run.last - run.first) = omega arith in
    ap (λ n. runs (replicate n run.kind ++ others)) count
    ∙ runs-run (run.last - run.first) run.kind others other
    ∙ ap (λ n. record { kind = run.kind; count = n } ∷ runs others) (sym count)

-- no line is due for a run that is still open
pub nothing_ended : (run : OpenRun) → run.first ≤ run.last
    → ended_lines run.first (kinds_of run ++ []) ≡ []
nothing_ended run ordered =
    ap (λ rs. all_but_last (run_lines run.first rs)) (runs-open run [] ordered tt)

-- if no kinds follow an open run, its line is the last line
last_line-open : (run : OpenRun) → run.first ≤ run.last
    → last_line run.first (runs (kinds_of run)) ≡ line_of run
last_line-open run ordered =
    ap (λ ks. last_line run.first (runs ks)) (sym (append-nil (kinds_of run)))
    ∙ ap (last_line run.first) (runs-open run [] ordered tt)

module _ (run : OpenRun) (block : ℕ) (kind : SectorKind) (ends : EndsBefore (Some run) block) where
  same_kind_taken : (out : Outgoing) → run.kind ≡ kind
      → HasExtended (Some run) (record run { last = block }) block kind out out
  same_kind_taken out same = record {
    sent = [];
    takes = Takes-nil out;
    ends = (omega arith, refl);
    lines = λ others. ap (ended_lines run.first) (longer others);
    end = λ others. ap (λ ks. last_line run.first (runs ks)) (longer others);
  }
    where
      longer : (others : List SectorKind)
          → kinds_of run ++ kind ∷ others ≡ replicate (block + 1 - run.first) run.kind ++ others
      longer others =
          let more : suc (run.last + 1 - run.first) ≡ block + 1 - run.first = omega arith in
          ap (λ k. kinds_of run ++ k ∷ others) (sym same)
          ∙ replicate-after (run.last + 1 - run.first) run.kind others
          ∙ ap (λ n. replicate n run.kind ++ others) more

  module _ (other : run.kind ≡ kind → ⊥) (others : List SectorKind) where
    next_is : run.first + (run.last + 1 - run.first) ≡ block
    next_is = omega arith

    ended-other : ended_lines run.first (kinds_of run ++ kind ∷ others)
        ≡ line_of run ∷ ended_lines block (kind ∷ others)
    ended-other =
        let begins = put_before-begins kind (runs others) in
        ap (λ rs. all_but_last (run_lines run.first rs))
        (runs-open run (kind ∷ others) ends.0 other)
        ∙ lines-more (line_of run) (run.first + (run.last + 1 - run.first))
        (runs (kind ∷ others)) _ _ begins.2
        ∙ ap (λ b. line_of run ∷ ended_lines b (kind ∷ others)) next_is

    last-other : last_line run.first (runs (kinds_of run ++ kind ∷ others))
        ≡ last_line block (runs (kind ∷ others))
    last-other =
        let begins = put_before-begins kind (runs others) in
        ap (last_line run.first) (runs-open run (kind ∷ others) ends.0 other)
        ∙ last-more run.first (run_of run) (runs (kind ∷ others)) _ _ begins.2
        ∙ ap (λ b. last_line b (runs (kind ∷ others))) next_is

  other_kind_taken : (old new : Outgoing) → (run.kind ≡ kind → ⊥) → Takes old new (line_of run)
      → HasExtended (Some run) (record { first = block; last = block; kind = kind })
      block kind old new
  other_kind_taken old new other went = record {
    sent = line_of run ∷ [];
    takes = subst (Takes old new) (sym (append-nil (line_of run))) went;
    ends = (omega arith, refl);
    lines =
        λ others. ended-other other others
        ∙ ap (λ ks. line_of run ∷ ended_lines block ks) (kinds-new block kind others);
    end =
        λ others. last-other other others
        ∙ ap (λ ks. last_line block (runs ks)) (kinds-new block kind others);
  }

  other_kind_failed : (old new : Outgoing) → (run.kind ≡ kind → ⊥)
      → (n : ℕ) × (n < length (line_of run)) × Takes old new (take n (line_of run))
      → FailsToExtend (Some run) block kind old new
  other_kind_failed old new other went =
      record {
        line = line_of run;
        count = went.0;
        takes = went.2;
        cut = went.1;
        lines = λ others. ended-other other others;
      }

-- the same for a given run
module _ (given : Option OpenRun) (run : OpenRun) (is : given ≡ Some run) where
  pub last_line-given : run.first ≤ run.last
      → last_line (open_first given 0) (runs (open_kinds given)) ≡ line_of run
  last_line-given ordered =
      ap (λ r. last_line (open_first r 0) (runs (open_kinds r))) is ∙ last_line-open run ordered

  module _ (block : ℕ) (kind : SectorKind) (follows : EndsBefore given block) where
    ends : EndsBefore (Some run) block
    ends = subst (λ r. EndsBefore r block) is follows

    pub ExtendsRun-same : (out : Outgoing) → run.kind ≡ kind
        → HasExtended given (record run { last = block }) block kind out out
    ExtendsRun-same out same =
        subst (λ r. HasExtended r (record run { last = block }) block kind out out) (sym is)
        (same_kind_taken run block kind ends out same)

    module _ (old new : Outgoing) (other : run.kind ≡ kind → ⊥) where
      pub ExtendsRun-other : Takes old new (line_of run)
          → HasExtended given (record { first = block; last = block; kind = kind })
          block kind old new
      ExtendsRun-other went =
          subst (λ r. HasExtended r (record { first = block; last = block; kind = kind }) block kind
          old new) (sym is) (other_kind_taken run block kind ends old new other went)

      pub ExtendsRun-failed : (n : ℕ) × (n < length (line_of run))
          × Takes old new (take n (line_of run)) → FailsToExtend given block kind old new
      ExtendsRun-failed went =
          subst (λ r. FailsToExtend r block kind old new) (sym is)
          (other_kind_failed run block kind ends old new other went)
