-- The amounts of the eight changes: none is 0 unless the change of the byte is, and no other
-- amounts keep the syndromes (ECMA-130, Annex A).
use Rattle.std.proofs.Common.{◌≡◌, ◌≢◌, ℕ, zero, suc, ◌<◌, ◌≤◌, All, Contains, false, List, [], ◌∷◌, length, get_or, nat_eq, bit_xor, refl, sym, ap, ◌∙◌, arith}
use Rattle.std.specs.Prelude.{take}
use Rattle.std.specs.List.{AllByRecursion, IsDistinct}
use Rattle.std.proofs.lemmas.Bool.{eqb-false}
use Rattle.std.proofs.lemmas.List.{get_or-set_same, length-set}
use Rattle.std.proofs.lemmas.Map.Keys.{IsDistinct-head, IsDistinct-tail}
use Rattle.cd_code.specs.Edc.{bits, remainder}
use Rattle.cd_code.specs.Field.{AreBytes}
use Rattle.cd_code.specs.Syndrome.{SameSums, with_added}
use Rattle.cd_code.proofs.general.Lists.{front-same}
use Rattle.cd_code.proofs.general.Xor.{xor_cancel}
use Rattle.cd_code.specs.CodeWords.{SameSyndromes}
use Rattle.cd_sector.proofs.SectorLemmas.{sector_same}
use Rattle.cd_delta.specs.declared.changes.Change.{Change}
use Rattle.cd_delta.specs.ParityChanges.{with_changes}
use Rattle.cd_delta.proofs.AddLemmas.{AreBytes-added, length-added}
use Rattle.cd_delta.proofs.AddLemmas.{changed-other, places_of, places_of-after}
use Rattle.cd_delta.proofs.KeepLemmas.{AreCarried, Eight, listed}
use Rattle.cd_delta.proofs.KeepLemmas.{IsDistinct-carried, SameSyndromes-carried}
use Rattle.cd_delta.proofs.WritingLemmas.{SameSyndromes-trans}

-- ---- none is 0

All-each : (P : Change → Type 0) (cs : List Change) → AllByRecursion P cs → All P cs
All-each P (c ∷ cs) each zero d h = each.0
All-each P (c ∷ cs) each (suc i) d h = All-each P cs each.1 i d (omega arith)
All-each P _ each i d h = absurd (omega arith)

All-eight : (P : Change → Type 0) (t : Eight) → (P t.column.0 × P t.column.1)
    → (P t.own.0 × P t.own.1) → (P t.first.0 × P t.first.1)
    → (P t.second.0 × P t.second.1) → All P (listed t)
All-eight P t p q r s =
    All-each P (listed t) (p.0, (p.1, (q.0, (q.1, (r.0, (r.1, (s.0, (s.1, tt))))))))

-- if the byte changes, each of the eight parity bytes does
pub nonzero-carried : {byte : Change} {t : Eight} → AreCarried byte t → byte.d ≢ 0
    → All (λ c. c.d ≢ 0) (listed t)
nonzero-carried {byte} {t} c some =
    let pair = c.of_column.nonzero some in
    All-eight (λ e. e.d ≢ 0) t pair (c.of_own.nonzero some) (c.of_first.nonzero pair.0)
    (c.of_second.nonzero pair.1)

-- the eight places are in the parity
inside-carried : {byte : Change} {t : Eight} → AreCarried byte t
    → All (λ c. (2076 ≤ c.place) × (c.place < 2352)) (listed t)
inside-carried {byte} {t} c =
    All-eight (λ e. (2076 ≤ e.place) × (e.place < 2352)) t
    ((omega arith, omega arith), (omega arith, omega arith))
    ((omega arith, omega arith), (omega arith, omega arith))
    ((omega arith, omega arith), (omega arith, omega arith))
    ((omega arith, omega arith), (omega arith, omega arith))

-- the eight amounts are bytes
bytes-carried : {byte : Change} {t : Eight} → AreCarried byte t → All (λ c. c.d < 256) (listed t)
bytes-carried {byte} {t} c =
    All-eight (λ e. e.d < 256) t c.of_column.bytes c.of_own.bytes c.of_first.bytes c.of_second.bytes

-- ---- no others

-- changes do not affect the length of a sector
length-changed : (cs : List Change) (s : List ℕ) → length (with_changes s cs) ≡ length s
length-changed [] s = refl
length-changed (c ∷ cs) s = length-changed cs (with_added s c.place c.d) ∙ length-added s c.place c.d

-- a sector with changes still consists of bytes
AreBytes-changed : (cs : List Change) (s : List ℕ) → AreBytes s → All (λ c. c.d < 256) cs
    → AreBytes (with_changes s cs)
AreBytes-changed [] s h low = h
AreBytes-changed (c ∷ cs) s h low =
    let bytes = AreBytes-added s c.place c.d h (low 0 c (omega arith)) in
    AreBytes-changed cs (with_added s c.place c.d) bytes
    (λ i e below. low (suc i) e (omega arith))

-- a number that differs from all elements of a list is not one of them
none_of : (p : ℕ) (ps : List ℕ) → AllByRecursion (λ q. nat_eq p q ≡ false) ps → (i : ℕ)
    → i < length ps → get_or ps i p ≡ p → ⊥
none_of p [] all i h e = absurd (omega arith)
none_of p (q ∷ ps) all zero h e = eqb-false p q all.0 (sym e)
none_of p (q ∷ ps) all (suc i) h e = none_of p ps all.1 i (omega arith) e

-- the amount of the first change can be read off
first_amount : (c : Change) (cs : List Change) (s : List ℕ) → (Contains (places_of cs) c.place → ⊥)
    → c.place < length s
    → get_or (with_changes (with_added s c.place c.d) cs) c.place 0 ≡ bit_xor (get_or s c.place 0) c.d
first_amount c cs s apart inside =
    changed-other cs (with_added s c.place c.d) c.place apart
    ∙ get_or-set_same s c.place (bit_xor (get_or s c.place 0) c.d) 0 inside

same_change : (c e : Change) → c.place ≡ e.place → c.d ≡ e.d → c ≡ e
same_change c e p q =
    ap (λ n. record { place = n; d = c.d }) p ∙ ap (λ n. record { place = e.place; d = n }) q

-- changes at the same places, all different, that give the same sector have the same amounts
same_changes : (cs es : List Change) (s : List ℕ) → places_of cs ≡ places_of es
    → IsDistinct nat_eq (places_of cs)
    → All (λ c. c.place < length s) cs → with_changes s cs ≡ with_changes s es → cs ≡ es
same_changes [] [] s places distinct inside same = refl
same_changes [] (e ∷ es) s places distinct inside same = absurd cc
same_changes (c ∷ cs) [] s places distinct inside same = absurd cc
same_changes (c ∷ cs) (e ∷ es) s places distinct inside same =
    let here : c.place ≡ e.place = cc in
    let rest : places_of cs ≡ places_of es = cc in
    let apart : Contains (places_of cs) c.place → ⊥ =
    (λ found. none_of c.place (places_of cs)
    (IsDistinct-head nat_eq c.place (places_of cs) distinct) found.0 found.1 found.2) in
    let apart_e : Contains (places_of es) e.place → ⊥ =
    (let P : List ℕ → ℕ → Type 0 = λ ps p. Contains ps p → ⊥ in rw here at (rw rest at apart)) in
    let within : c.place < length s = inside 0 c (omega arith) in
    let within_e : e.place < length s = omega arith in
    let amounts : c.d ≡ e.d =
    xor_cancel (get_or s c.place 0) c.d e.d
    (sym (first_amount c cs s apart within) ∙ ap (λ v. get_or v c.place 0) same
    ∙ ap (λ n. get_or (with_changes (with_added s e.place e.d) es) n 0) here
    ∙ first_amount e es s apart_e within_e ∙ ap (λ n. bit_xor (get_or s n 0) e.d) (sym here)) in
    let one : c ≡ e = same_change c e here amounts in
    let after : with_changes (with_added s c.place c.d) cs ≡ with_changes (with_added s c.place c.d) es =
    same ∙ ap (λ z. with_changes (with_added s z.place z.d) es) (sym one) in
    let long = length-set s c.place (bit_xor (get_or s c.place 0) c.d) in
    ap (λ z. z ∷ cs) one
    ∙ ap (λ zs. e ∷ zs)
    (same_changes cs es (with_added s c.place c.d) rest
    (IsDistinct-tail nat_eq c.place (places_of cs) distinct)
    (λ i z below. (let h = inside (suc i) z (omega arith) in omega arith)) after)

SameSums-sym : {v w : List ℕ} → SameSums v w → SameSums w v
SameSums-sym h = record { first = sym h.first; second = sym h.second }

SameSyndromes-sym : {s t : List ℕ} → SameSyndromes s t → SameSyndromes t s
SameSyndromes-sym h = record {
  columns = λ plane n hp hn. SameSums-sym (h.columns plane n hp hn);
  diagonals = λ plane n hp hn. SameSums-sym (h.diagonals plane n hp hn);
}

-- changes of the parity at the same places that keep the same syndromes are equal
amounts_unique : (cs es : List Change) (s t : List ℕ) → places_of es ≡ places_of cs
    → IsDistinct nat_eq (places_of cs)
    → All (λ c. (2076 ≤ c.place) × (c.place < 2352)) cs → All (λ c. c.d < 256) cs
    → All (λ c. c.d < 256) es
    → AreBytes t → length t ≡ 2352 → SameSyndromes (with_changes t cs) s
    → SameSyndromes (with_changes t es) s → es ≡ cs
amounts_unique cs es s t places distinct inside low_c low_e bytes size one two =
    let u = with_changes t cs in
    let v = with_changes t es in
    let u_size : length u ≡ 2352 = length-changed cs t ∙ size in
    let v_size : length v ≡ 2352 = length-changed es t ∙ size in
    let agree : (i : ℕ) → i < 2076 → get_or u i 0 ≡ get_or v i 0 =
    (λ i below.
    changed-other cs t i (places_of-after cs i inside below)
    ∙ sym (changed-other es t i
    (λ found. places_of-after cs i inside below (rw places at found)))) in
    let front : take 2068 u ≡ take 2068 v =
    front-same u v 2068 (omega arith) (omega arith) (λ i below. agree i (omega arith)) in
    let same : u ≡ v =
    sector_same u v u_size v_size (AreBytes-changed cs t bytes low_c)
    (AreBytes-changed es t bytes low_e)
    (λ i below. agree i (omega arith)) (ap (λ w. remainder (bits w)) front)
    (λ i _ below. agree i below)
    (SameSyndromes-trans one (SameSyndromes-sym two)) in
    sym (same_changes cs es t (sym places) distinct
    (λ i c below. (let h = inside i c below in let e = h.1 in omega arith)) same)

-- no other amounts at the eight places keep all syndromes
pub unique-carried : {byte : Change} {t : Eight} → AreCarried byte t → (others : List Change)
    → places_of others ≡ places_of (listed t) → All (λ c. c.d < 256) others
    → (s : List ℕ) → AreBytes s → length s ≡ 2352
    → SameSyndromes (with_changes s (byte ∷ others)) s → others ≡ listed t
unique-carried {byte} {t} c others places bytes s each size kept =
    amounts_unique (listed t) others s (with_changes s (byte ∷ [])) places (IsDistinct-carried c)
    (inside-carried c) (bytes-carried c) bytes
    (AreBytes-added s byte.place byte.d each c.in_bytes) (length-added s byte.place byte.d ∙ size)
    (SameSyndromes-carried c s each size) kept
