-- A sector to which changes are added one after another.
use Rattle.std.proofs.Common.{◌≡◌, ◌≢◌, ℕ, zero, suc, ◌<◌, ◌≤◌, All, Contains, List, [], ◌∷◌}
use Rattle.std.proofs.Common.{◌++◌, length, map, set, get_or, bit_xor, refl, sym, ap, ◌∙◌, arith}
use Rattle.std.specs.List.{AllByRecursion}
use Rattle.std.proofs.lemmas.List.{get_or-map, get_or-set_same, get_or-set_other}
use Rattle.std.proofs.lemmas.List.{length-map, length-set, set_comm}
use Rattle.std.proofs.lemmas.Nat.{xor_lt}
use Rattle.cd_code.specs.Field.{AreBytes}
use Rattle.cd_code.specs.Syndrome.{with_added}
use Rattle.cd_code.proofs.ByteLemmas.{AreBytes-set}
use Rattle.cd_code.proofs.general.Xor.{xor_twice_left}
use Rattle.cd_delta.specs.declared.changes.Change.{Change}
use Rattle.cd_delta.specs.ParityChanges.{with_changes}

abbrev pub places_of : List Change → List ℕ
places_of changes = map (λ c. c.place) changes

-- a byte that is not changed
pub changed-other : (changes : List Change) (s : List ℕ) (i : ℕ)
    → (Contains (places_of changes) i → ⊥)
    → get_or (with_changes s changes) i 0 ≡ get_or s i 0
changed-other [] s i none = refl
changed-other (c ∷ cs) s i none =
    changed-other cs (with_added s c.place c.d) i (λ h. none (suc h.0, omega arith, h.2))
    ∙ get_or-set_other s c.place i (bit_xor (get_or s c.place 0) c.d) 0
    (λ e. none (zero, omega arith, sym e))

-- the places of parity changes are after all others
pub places_of-after : (changes : List Change) (i : ℕ)
    → All (λ c. (2076 ≤ c.place) × (c.place < 2352)) changes → i < 2076
    → Contains (places_of changes) i → ⊥
places_of-after changes i inside below found =
    let none : Change = record { place = 0; d = 0 } in
    let within : found.0 < length changes =
    (let h = found.1 in omega (arith, length-map changes (λ c. c.place))) in
    let at : get_or (places_of changes) found.0 i ≡ (get_or changes found.0 none).place =
    get_or-map (λ c. c.place) changes found.0 none i within in
    let one = inside found.0 none within in
    let same = found.2 in
    omega arith

-- the changed byte gets its intended value
pub added-value : (s : List ℕ) (place value : ℕ) → place < length s
    → get_or (with_added s place (bit_xor (get_or s place 0) value)) place 0 ≡ value
added-value s place value inside =
    get_or-set_same s place (bit_xor (get_or s place 0) (bit_xor (get_or s place 0) value)) 0 inside
    ∙ xor_twice_left (get_or s place 0) value

-- a change does not affect the length of a sector
pub length-added : (s : List ℕ) (place d : ℕ) → length (with_added s place d) ≡ length s
length-added s place d = length-set s place (bit_xor (get_or s place 0) d)

-- a sector with a change still consists of bytes
pub AreBytes-added : (s : List ℕ) (place d : ℕ) → AreBytes s → d < 256
    → AreBytes (with_added s place d)
AreBytes-added s place d bytes low =
    let x = get_or s place 0 in
    AreBytes-set s place (bit_xor x d) bytes (xor_lt 8 x d (bytes place) low)

-- changes of two different bytes commute
added-comm : (s : List ℕ) (p q d e : ℕ) → q ≢ p → with_added (with_added s p d) q e ≡ with_added (with_added s q e) p d
added-comm s p q d e apart =
    let x = bit_xor (get_or s p 0) d in
    let y = bit_xor (get_or s q 0) e in
    let other : p ≢ q = (λ same. apart (sym same)) in
    ap (λ n. set (set s p x) q (bit_xor n e)) (get_or-set_other s p q x 0 apart)
    ∙ set_comm s p q x y other
    ∙ ap (λ n. set (set s q y) p (bit_xor n d)) (sym (get_or-set_other s q p y 0 other))

-- a change commutes with changes of other bytes
pub changed-past : (c : Change) (others cs : List Change) (s : List ℕ)
    → AllByRecursion (λ e. e.place ≢ c.place) others
    → with_changes s (c ∷ (others ++ cs)) ≡ with_changes s (others ++ (c ∷ cs))
changed-past c [] cs s apart = refl
changed-past c (e ∷ others) cs s apart =
    ap (λ t. with_changes t (others ++ cs)) (added-comm s c.place e.place c.d e.d apart.0)
    ∙ changed-past c others cs (with_added s e.place e.d) apart.1
