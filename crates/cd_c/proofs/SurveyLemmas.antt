-- The records of sectors, one after the other, and their contents.
use Rattle.std.proofs.Common.{◌≡◌, ℕ, zero, suc, ◌+◌, ◌==◌, ◌<◌, ◌≤◌, Bool, true, false, List, [], ◌∷◌, ◌++◌, length, map, take, drop, get_or, Option, Some, None, refl, ap, ◌∙◌, arith, append-nil}
use Rattle.std.specs.Prelude.{slice_set, if◌then◌else◌}
use Rattle.std.proofs.lemmas.List.{take_all, drop_all}
use Rattle.cd_sector.specs.Kind.{kind_number, kind_of}
use Rattle.cd_sector.specs.Consistent.{is_mode1}
use Rattle.cd_sector.specs.declared.kinds.SectorKind.{SectorKind}
use Rattle.cd_sector.specs.declared.kinds.SectorKind.TheVariants.{NoSync, Mode0, Mode1, Mode2, Other}
use Rattle.cd_report.specs.AuditText.{audit_lines, findings_of, found_of, finding_lines}
use Rattle.cd_report.specs.declared.findings.Findings.{Findings}
use Rattle.cd_c.specs.declared.surveying.SectorRecord.{SectorRecord}
use Rattle.cd_c.specs.Results.{as_byte}
use Rattle.cd_c.specs.Survey.{found_in, kind_in, lines_in, record_of, survey, told}

-- ---- one record more

pub survey-set : (block : ℕ) (ss : List (List ℕ)) (rs : List SectorRecord) (i : ℕ) (d : List ℕ)
    → i < length ss → i < length rs
    → slice_set (survey block (take i ss) ++ drop i rs) i (record_of (block + i) (get_or ss i d))
    ≡ survey block (take (suc i) ss) ++ drop (suc i) rs
survey-set block [] rs i d low high = absurd (omega arith)
survey-set block (s ∷ ss) [] i d low high = absurd (omega arith)
survey-set block (s ∷ ss) (r ∷ rs) zero d low high =
    let e : block + 0 ≡ block = omega arith in
    ap (λ n. record_of n s ∷ rs) e
survey-set block (s ∷ ss) (r ∷ rs) (suc i) d low high =
    let e : block + suc i ≡ block + 1 + i = omega arith in
    ap (λ n. record_of block s
    ∷ slice_set (survey (block + 1) (take i ss) ++ drop i rs) i (record_of n (get_or ss i d))) e
    ∙ ap (λ others. record_of block s ∷ others)
    (survey-set (block + 1) ss rs i d (omega arith) (omega arith))

-- ---- the contents of records

truth : (b : Bool) → (as_byte b == 1) ≡ b
truth true = refl
truth false = refl

found_in-told : (kind : SectorKind) (f : Findings)
    → found_in (told (kind_number kind) (if is_mode1 kind then Some f else None))
    ≡ (if is_mode1 kind then Some f else None)
found_in-told NoSync f = refl
found_in-told Mode0 f = refl
found_in-told Mode1 f =
    ap (λ b. Some (record {
      address = b;
      defect = record {
        zeros = as_byte f.defect.zeros == 1;
        edc = as_byte f.defect.edc == 1;
        p = f.defect.p;
        q = f.defect.q;
      };
    })) (truth f.address)
    ∙ ap (λ b. Some (record {
      address = f.address;
      defect = record {
        zeros = b;
        edc = as_byte f.defect.edc == 1;
        p = f.defect.p;
        q = f.defect.q;
      };
    })) (truth f.defect.zeros)
    ∙ ap (λ b. Some (record {
      address = f.address;
      defect = record { zeros = f.defect.zeros; edc = b; p = f.defect.p; q = f.defect.q };
    })) (truth f.defect.edc)
found_in-told Mode2 f = refl
found_in-told Other f = refl

found_in-record : (block : ℕ) (s : List ℕ) → found_in (record_of block s) ≡ findings_of block s
unfolding record_of findings_of
found_in-record block s = found_in-told (kind_of s) (found_of block s)

pub lines_in-survey : (block : ℕ) (ss : List (List ℕ))
    → lines_in block (survey block ss) ≡ audit_lines block ss
lines_in-survey block [] = refl
lines_in-survey block (s ∷ ss) =
    ap (λ found. finding_lines block found ++ lines_in (block + 1) (survey (block + 1) ss))
    (found_in-record block s)
    ∙ ap (λ others. finding_lines block (findings_of block s) ++ others)
    (lines_in-survey (block + 1) ss)

kind-told : (kind : ℕ) (found : Option Findings) → (told kind found).kind ≡ kind
kind-told kind None = refl
kind-told kind (Some found) = refl

kind-record : (block : ℕ) (s : List ℕ) → (record_of block s).kind ≡ kind_number (kind_of s)
unfolding record_of
kind-record block s = kind-told (kind_number (kind_of s)) (findings_of block s)

pub kinds-survey : (block : ℕ) (ss : List (List ℕ))
    → map (λ r. r.kind) (survey block ss) ≡ map (λ s. kind_number (kind_of s)) ss
kinds-survey block [] = refl
kinds-survey block (s ∷ ss) =
    ap (λ k. k ∷ map (λ r. r.kind) (survey (block + 1) ss)) (kind-record block s)
    ∙ ap (λ ks. kind_number (kind_of s) ∷ ks) (kinds-survey (block + 1) ss)

kind_in-told : (kind : SectorKind) (found : Option Findings)
    → kind_in (told (kind_number kind) found) ≡ kind
kind_in-told NoSync None = refl
kind_in-told NoSync (Some found) = refl
kind_in-told Mode0 None = refl
kind_in-told Mode0 (Some found) = refl
kind_in-told Mode1 None = refl
kind_in-told Mode1 (Some found) = refl
kind_in-told Mode2 None = refl
kind_in-told Mode2 (Some found) = refl
kind_in-told Other None = refl
kind_in-told Other (Some found) = refl

kind_in-record : (block : ℕ) (s : List ℕ) → kind_in (record_of block s) ≡ kind_of s
unfolding record_of
kind_in-record block s = kind_in-told (kind_of s) (findings_of block s)

pub kind_in-survey : (block : ℕ) (ss : List (List ℕ))
    → map kind_in (survey block ss) ≡ map kind_of ss
kind_in-survey block [] = refl
kind_in-survey block (s ∷ ss) =
    ap (λ k. k ∷ map kind_in (survey (block + 1) ss)) (kind_in-record block s)
    ∙ ap (λ ks. kind_of s ∷ ks) (kind_in-survey (block + 1) ss)

-- after the last sector no old record is left
pub survey-all : (block : ℕ) (ss : List (List ℕ)) (rs : List SectorRecord) (i : ℕ)
    → length ss ≤ i → length rs ≤ i
    → survey block (take i ss) ++ drop i rs ≡ survey block ss
survey-all block ss rs i low high =
    ap (λ v. survey block v ++ drop i rs) (take_all i ss low)
    ∙ ap (λ v. survey block ss ++ v) (drop_all i rs high)
    ∙ append-nil (survey block ss)

-- a step of the loop
pub survey-more : (block i : ℕ) (ss : List (List ℕ)) (rs now : List SectorRecord) (s : List ℕ)
    (x : SectorRecord) → now ≡ survey block (take i ss) ++ drop i rs → x ≡ record_of (block + i) s
    → s ≡ get_or ss i s → i < length ss → i < length rs
    → slice_set now i x ≡ survey block (take (i + 1) ss) ++ drop (i + 1) rs
survey-more block i ss rs now s x before value read low high =
    ap (λ v. slice_set v i x) before
    ∙ ap (slice_set (survey block (take i ss) ++ drop i rs) i)
    (value ∙ ap (record_of (block + i)) read)
    ∙ survey-set block ss rs i s low high
    ∙ (let e : suc i ≡ i + 1 = omega arith in ap (λ n. survey block (take n ss) ++ drop n rs) e)
