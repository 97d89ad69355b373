-- Runs of sectors of the same kind.
use Rattle.std.proofs.Common.{◌≡◌, ◌≢◌, ℕ, zero, suc, ◌+◌, true, false, List, [], ◌∷◌, ◌++◌, replicate, refl, sym, ap, ◌∙◌, subst, arith, add-one, cond, ◌<◌}
use Rattle.std.proofs.lemmas.Bool.Decides.{nat_tests}
use Rattle.cd_sector.specs.Kind.{kind_number}
use Rattle.cd_sector.specs.declared.kinds.SectorKind.{SectorKind}
use Rattle.cd_sector.specs.declared.kinds.SectorKind.TheVariants.{NoSync, Mode0, Mode1, Mode2, Other}
use Rattle.cd_report.specs.Runs.{Run, AreMaximal, prepend_kind, runs, same_kind, kinds_of}

-- the kind of a number
kind_at : ℕ → SectorKind
kind_at zero = NoSync
kind_at (suc zero) = Mode0
kind_at (suc (suc zero)) = Mode1
kind_at (suc (suc (suc zero))) = Mode2
kind_at (suc (suc (suc (suc n)))) = Other

kind_at-kind_number : (kind : SectorKind) → kind_at (kind_number kind) ≡ kind
unfolding kind_at
kind_at-kind_number NoSync = refl
kind_at-kind_number Mode0 = refl
kind_at-kind_number Mode1 = refl
kind_at-kind_number Mode2 = refl
kind_at-kind_number Other = refl

pub same_kind-refl : (kind : SectorKind) → same_kind kind kind ≡ true
same_kind-refl NoSync = refl
same_kind-refl Mode0 = refl
same_kind-refl Mode1 = refl
same_kind-refl Mode2 = refl
same_kind-refl Other = refl

pub same_kind-true : (a b : SectorKind) → same_kind a b ≡ true → a ≡ b
same_kind-true a b e =
    let numbers : kind_number a ≡ kind_number b = grind (arith, nat_tests) in
    sym (kind_at-kind_number a) ∙ ap kind_at numbers ∙ kind_at-kind_number b

pub same_kind-false : (a b : SectorKind) → a ≢ b → same_kind a b ≡ false
same_kind-false a b differ =
    elim (same_kind a b) as (λ t. (same_kind a b ≡ t → t ≡ false)) [
      | true ↦ λ e. absurd (differ (same_kind-true a b e))
      | false ↦ λ _. refl
    ] refl

-- runs with one more kind before them begin with a run of that kind
pub put_before-begins : (kind : SectorKind) (rs : List Run)
    → (count : ℕ) × (others : List Run)
    × (prepend_kind kind rs ≡ record { kind = kind; count = count } ∷ others)
put_before-begins kind [] = (1, [], refl)
put_before-begins kind (run ∷ others) =
    elim (same_kind kind run.kind) as
    (λ t. (count : ℕ) × (left : List Run)
    × (cond t (record { kind = kind; count = run.count + 1 } ∷ others)
    (record { kind = kind; count = 1 } ∷ run ∷ others)
    ≡ record { kind = kind; count = count } ∷ left)) [
      | true ↦ (run.count + 1, others, refl)
      | false ↦ (1, run ∷ others, refl)
    ]

-- kinds that do not begin with this one
abbrev pub IsOther : SectorKind → List SectorKind → Type 0
IsOther kind [] = Unit {0}
IsOther kind (next ∷ others) = kind ≢ next

put_before-other : (kind : SectorKind) (others : List SectorKind) → IsOther kind others
    → prepend_kind kind (runs others) ≡ record { kind = kind; count = 1 } ∷ runs others
put_before-other kind [] other = refl
put_before-other kind (next ∷ others) other =
    let begins = put_before-begins next (runs others) in
    let joined : same_kind kind next ≡ false = same_kind-false kind next other in
    subst (λ rs. prepend_kind kind rs ≡ record { kind = kind; count = 1 } ∷ rs) (sym begins.2)
    (ap (λ t. cond t (record { kind = kind; count = begins.0 + 1 } ∷ begins.1)
    (record { kind = kind; count = 1 } ∷ record { kind = next; count = begins.0 } ∷ begins.1))
    joined)

-- kinds of one run, and others after it
pub runs-run : (count : ℕ) (kind : SectorKind) (others : List SectorKind) → IsOther kind others
    → runs (replicate (suc count) kind ++ others)
    ≡ record { kind = kind; count = suc count } ∷ runs others
runs-run zero kind others other = put_before-other kind others other
runs-run (suc count) kind others other =
    ap (prepend_kind kind) (runs-run count kind others other)
    ∙ ap (λ t. cond t (record { kind = kind; count = suc count + 1 } ∷ runs others)
    (record { kind = kind; count = 1 } ∷ record { kind = kind; count = suc count } ∷ runs others))
    (same_kind-refl kind)
    ∙ ap (λ n. record { kind = kind; count = n } ∷ runs others) (add-one (suc count))

kinds_of-put_before : (kind : SectorKind) (rs : List Run)
    → kinds_of (prepend_kind kind rs) ≡ kind ∷ kinds_of rs
kinds_of-put_before kind [] = refl
kinds_of-put_before kind (run ∷ others) =
    elim (same_kind kind run.kind) as (λ t. same_kind kind run.kind ≡ t
    → kinds_of (cond t (record { kind = kind; count = run.count + 1 } ∷ others)
    (record { kind = kind; count = 1 } ∷ run ∷ others)) ≡ kind ∷ kinds_of (run ∷ others)) [
      | true ↦
          λ e. ap (λ n. replicate n kind ++ kinds_of others) (add-one run.count)
          ∙ ap (λ k. kind ∷ (replicate run.count k ++ kinds_of others))
          (same_kind-true kind run.kind e)
      | false ↦ λ _. refl
    ] refl

AreMaximal-put_before : (kind : SectorKind) (rs : List Run) → AreMaximal rs
    → AreMaximal (prepend_kind kind rs)
AreMaximal-put_before kind [] maximal = omega arith
AreMaximal-put_before kind (run ∷ others) maximal =
    elim (same_kind kind run.kind) as (λ t. same_kind kind run.kind ≡ t
    → AreMaximal
    (cond t (record { kind = kind; count = run.count + 1 } ∷ others)
    (record { kind = kind; count = 1 } ∷ run ∷ others))) [
      | true ↦ λ e. longer kind run others (same_kind-true kind run.kind e) maximal
      | false ↦ λ e. (omega arith, λ same. absurd (differs kind run.kind e same), maximal)
    ] refl
  where
    differs : (a b : SectorKind) → same_kind a b ≡ false → a ≡ b → ⊥
    differs a b e same =
        let f : same_kind a a ≡ false = subst (λ k. same_kind a k ≡ false) (sym same) e in
        let g = same_kind-refl a in
        cc

    longer : (kind : SectorKind) (run : Run) (others : List Run) → kind ≡ run.kind
        → AreMaximal (run ∷ others)
        → AreMaximal (record { kind = kind; count = run.count + 1 } ∷ others)
    longer kind run [] e maximal = omega arith
    longer kind run (next ∷ others) e maximal =
        (omega arith, subst (λ k. k ≢ next.kind) (sym e) maximal.1, maximal.2)

pub kinds_of-runs : (kinds : List SectorKind) → kinds_of (runs kinds) ≡ kinds
kinds_of-runs [] = refl
kinds_of-runs (kind ∷ others) =
    kinds_of-put_before kind (runs others) ∙ ap (λ ks. kind ∷ ks) (kinds_of-runs others)

pub AreMaximal-runs : (kinds : List SectorKind) → AreMaximal (runs kinds)
AreMaximal-runs [] = tt
AreMaximal-runs (kind ∷ others) = AreMaximal-put_before kind (runs others) (AreMaximal-runs others)

-- ---- no other runs

runs-one : (count : ℕ) (kind : SectorKind) (others : List SectorKind) → 0 < count
    → IsOther kind others
    → runs (replicate count kind ++ others) ≡ record { kind = kind; count = count } ∷ runs others
runs-one zero kind others some other = absurd (omega arith)
runs-one (suc count) kind others some other = runs-run count kind others other

IsOther-replicate : (count : ℕ) (kind next : SectorKind) (others : List SectorKind) → 0 < count
    → kind ≢ next → IsOther kind (replicate count next ++ others)
IsOther-replicate zero kind next others some differ = absurd (omega arith)
IsOther-replicate (suc count) kind next others some differ = differ

first_count : (run : Run) (others : List Run) → AreMaximal (run ∷ others) → 0 < run.count
first_count run [] maximal = maximal
first_count run (next ∷ others) maximal = maximal.0

runs-kinds_of : (rs : List Run) → AreMaximal rs → runs (kinds_of rs) ≡ rs
runs-kinds_of [] maximal = refl
runs-kinds_of (run ∷ []) maximal = runs-one run.count run.kind [] maximal tt
runs-kinds_of (run ∷ next ∷ others) maximal =
    runs-one run.count run.kind (kinds_of (next ∷ others)) maximal.0
    (IsOther-replicate next.count run.kind next.kind (kinds_of others)
    (first_count next others maximal.2) maximal.1)
    ∙ ap (λ rs. run ∷ rs) (runs-kinds_of (next ∷ others) maximal.2)

pub runs-only : (kinds : List SectorKind) (rs : List Run) → kinds_of rs ≡ kinds → AreMaximal rs
    → rs ≡ runs kinds
runs-only kinds rs same maximal = sym (runs-kinds_of rs maximal) ∙ ap runs same
