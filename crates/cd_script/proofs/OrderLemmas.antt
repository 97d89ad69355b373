-- The order rises, keeps ties, and permutes, and no other order does.
use Rattle.std.proofs.Common.{◌≡◌, ℕ, zero, suc, ◌<◌, ◌≤◌, Bool, true, false, cond, List, [], ◌∷◌, refl, sym, ap, subst, ◌∙◌, arith, inl, inr}
use Rattle.std.specs.Prelude.{All, filter, ◌==◌}
use Rattle.std.specs.List.Sorted.{IsNonDecreasingBy, IsPermutation}
use Rattle.std.proofs.lemmas.Bool.{cases_lt, cond-true, cond-false, eq-eqb, eqb-true, le-leb, lt-leb, ne_eqb}
use Rattle.std.proofs.lemmas.List.Elements.{All-cons, All-head, All-tail}
use Rattle.std.proofs.lemmas.List.Sorted.{All-permutation, IsNonDecreasingBy-drop, IsNonDecreasingBy-short, IsPermutation-refl, IsPermutation-cons, IsPermutation-middle, IsPermutation-sym, IsPermutation-trans}
use Rattle.cd_script.specs.PatchForm.{Patch}
use Rattle.cd_script.specs.Order.{insert_patch, order, stands_in}

put_before-le : (p q : Patch) (qs : List Patch) → p.block ≤ q.block
    → insert_patch p (q ∷ qs) ≡ p ∷ q ∷ qs
unfolding insert_patch
put_before-le p q qs le = cond-true _ _ _ (le-leb p.block q.block le)

put_before-gt : (p q : Patch) (qs : List Patch) → q.block < p.block
    → insert_patch p (q ∷ qs) ≡ q ∷ insert_patch p qs
unfolding insert_patch
put_before-gt p q qs lt = cond-false _ _ _ (lt-leb p.block q.block lt)

-- ---- it permutes

IsPermutation-put_before : (p : Patch) (ps : List Patch) → IsPermutation (p ∷ ps) (insert_patch p ps)
unfolding insert_patch
IsPermutation-put_before p [] = IsPermutation-refl (p ∷ [])
IsPermutation-put_before p (q ∷ qs) =
    elim (cases_lt q.block p.block) [
      | inl lt ↦
          subst (IsPermutation (p ∷ q ∷ qs)) (sym (put_before-gt p q qs lt))
          (IsPermutation-trans (p ∷ q ∷ qs) (q ∷ p ∷ qs) (q ∷ insert_patch p qs)
          (IsPermutation-sym (q ∷ p ∷ qs) (p ∷ q ∷ qs) (IsPermutation-middle (q ∷ []) p qs))
          (IsPermutation-cons q (p ∷ qs) (insert_patch p qs) (IsPermutation-put_before p qs)))
      | inr ge ↦
          subst (IsPermutation (p ∷ q ∷ qs)) (sym (put_before-le p q qs ge))
          (IsPermutation-refl (p ∷ q ∷ qs))
    ]

pub order-permutes : (ps : List Patch) → IsPermutation ps (order ps)
unfolding order
order-permutes [] = IsPermutation-refl []
order-permutes (p ∷ ps) =
    IsPermutation-trans (p ∷ ps) (p ∷ order ps) (insert_patch p (order ps))
    (IsPermutation-cons p ps (order ps) (order-permutes ps)) (IsPermutation-put_before p (order ps))

-- ---- it rises

abbrev Rises : List Patch → Type 0
Rises = IsNonDecreasingBy (λ p. p.block)

-- no patch begins below block b
abbrev NotBelow : ℕ → List Patch → Type 0
NotBelow b = All (λ p. b ≤ p.block)

Rises-head : (p : Patch) (ps : List Patch) → Rises (p ∷ ps) → NotBelow p.block ps
Rises-head p ps h k d lt = h 0 (suc k) d (omega arith) (omega arith)

Rises-tail : (p : Patch) (ps : List Patch) → Rises (p ∷ ps) → Rises ps
Rises-tail p ps = IsNonDecreasingBy-drop (λ p. p.block) 1 (p ∷ ps)

Rises-cons : (p : Patch) (ps : List Patch) → NotBelow p.block ps → Rises ps → Rises (p ∷ ps)
Rises-cons p ps low h zero zero d le lt = omega arith
Rises-cons p ps low h zero (suc j) d le lt = low j d (omega arith)
Rises-cons p ps low h (suc i) zero d le lt = absurd (omega arith)
Rises-cons p ps low h (suc i) (suc j) d le lt = h i j d (omega arith) (omega arith)

Rises-put_before : (p : Patch) (ps : List Patch) → Rises ps → Rises (insert_patch p ps)
unfolding insert_patch
Rises-put_before p [] h = IsNonDecreasingBy-short (λ p. p.block) (p ∷ []) (omega arith)
Rises-put_before p (q ∷ qs) h =
    elim (cases_lt q.block p.block) [
      | inl lt ↦
          subst Rises (sym (put_before-gt p q qs lt))
          (Rises-cons q (insert_patch p qs)
          (All-permutation (λ x. q.block ≤ x.block) (p ∷ qs) (insert_patch p qs)
          (IsPermutation-put_before p qs)
          (All-cons (λ x. q.block ≤ x.block) p qs (omega arith) (Rises-head q qs h)))
          (Rises-put_before p qs (Rises-tail q qs h)))
      | inr ge ↦
          subst Rises (sym (put_before-le p q qs ge))
          (Rises-cons p (q ∷ qs) (All-cons (λ x. p.block ≤ x.block) q qs ge
          (λ k d lt. omega (arith, Rises-head q qs h k d lt))) h)
    ]

pub order-rises : (ps : List Patch) → Rises (order ps)
unfolding order
order-rises [] = IsNonDecreasingBy-short (λ p. p.block) [] (omega arith)
order-rises (p ∷ ps) = Rises-put_before p (order ps) (order-rises ps)

-- ---- it keeps ties

exchanged : (a b : Bool) (p q : Patch) (rest : List Patch) → (a ≡ true → b ≡ true → ⊥)
    → cond b (q ∷ cond a (p ∷ rest) rest) (cond a (p ∷ rest) rest)
    ≡ cond a (p ∷ cond b (q ∷ rest) rest) (cond b (q ∷ rest) rest)
exchanged true true p q rest other = absurd (other refl refl)
exchanged true false p q rest other = refl
exchanged false true p q rest other = refl
exchanged false false p q rest other = refl

filter-put_before : (k : ℕ) (p : Patch) (ps : List Patch)
    → filter (stands_in k) (insert_patch p ps) ≡ filter (stands_in k) (p ∷ ps)
unfolding insert_patch
filter-put_before k p [] = refl
filter-put_before k p (q ∷ qs) =
    elim (cases_lt q.block p.block) [
      | inl lt ↦
          ap (filter (stands_in k)) (put_before-gt p q qs lt)
          ∙ ap (λ (l : List Patch). cond (stands_in k q) (q ∷ l) l) (filter-put_before k p qs)
          ∙ exchanged (stands_in k p) (stands_in k q) p q (filter (stands_in k) qs)
          (λ a b. omega (arith, eqb-true p.block k a, eqb-true q.block k b))
      | inr ge ↦ ap (filter (stands_in k)) (put_before-le p q qs ge)
    ]

pub filter-order : (ps : List Patch) (k : ℕ)
    → filter (stands_in k) (order ps) ≡ filter (stands_in k) ps
unfolding order
filter-order [] k = refl
filter-order (p ∷ ps) k =
    filter-put_before k p (order ps)
    ∙ ap (λ (l : List Patch). cond (stands_in k p) (p ∷ l) l) (filter-order ps k)

-- ---- no other order does

none_below : (k b : ℕ) (ps : List Patch) → NotBelow b ps → k < b → filter (stands_in k) ps ≡ []
none_below k b [] h lt = refl
none_below k b (p ∷ ps) h lt =
    cond-false _ _ _ (ne_eqb p.block k (λ e. omega (arith, All-head (λ x. b ≤ x.block) p ps h)))
    ∙ none_below k b ps (All-tail (λ x. b ≤ x.block) p ps h) lt

here : (p : Patch) (ps : List Patch)
    → filter (stands_in p.block) (p ∷ ps) ≡ p ∷ filter (stands_in p.block) ps
here p ps = cond-true _ _ _ (eq-eqb p.block p.block refl)

-- a list that rises, and has a patch of p's block, does not begin with a later block
first_most : (p q : Patch) (ps qs : List Patch) → Rises (q ∷ qs)
    → filter (stands_in p.block) (p ∷ ps) ≡ filter (stands_in p.block) (q ∷ qs)
    → q.block ≤ p.block
first_most p q ps qs rises same = elim (cases_lt p.block q.block) [
  | inl lt ↦
      let none =
      none_below p.block q.block (q ∷ qs)
      (All-cons (λ x. q.block ≤ x.block) q qs (omega arith) (Rises-head q qs rises)) lt in
      let bad : p ∷ filter (stands_in p.block) ps ≡ [] = sym (here p ps) ∙ same ∙ none in
      absurd cc
  | inr ge ↦ ge
]

rest_same : (b : Bool) (p q : Patch) (ps qs : List Patch) → cond b (p ∷ ps) ps ≡ cond b (q ∷ qs) qs
    → ps ≡ qs
rest_same true p q ps qs e = cc
rest_same false p q ps qs e = e

same_rising : (ps qs : List Patch) → Rises ps → Rises qs
    → ((k : ℕ) → filter (stands_in k) ps ≡ filter (stands_in k) qs) → ps ≡ qs
same_rising [] [] a b same = refl
same_rising [] (q ∷ qs) a b same =
    let bad : [] ≡ q ∷ filter (stands_in q.block) qs = same q.block ∙ here q qs in
    absurd cc
same_rising (p ∷ ps) [] a b same =
    let bad : p ∷ filter (stands_in p.block) ps ≡ [] = sym (here p ps) ∙ same p.block in
    absurd cc
same_rising (p ∷ ps) (q ∷ qs) a b same =
    let low = first_most p q ps qs b (same p.block) in
    let high = first_most q p qs ps a (sym (same q.block)) in
    let tie : q.block ≡ p.block = omega arith in
    let first : filter (stands_in p.block) (q ∷ qs) ≡ q ∷ filter (stands_in p.block) qs =
    cond-true _ _ _ (eq-eqb q.block p.block tie) in
    let heads : p ∷ filter (stands_in p.block) ps ≡ q ∷ filter (stands_in p.block) qs =
    sym (here p ps) ∙ same p.block ∙ first in
    let head : p ≡ q = cc in
    let tails : ps ≡ qs =
    same_rising ps qs (Rises-tail p ps a) (Rises-tail q qs b)
    (λ k. rest_same (stands_in k p) p q (filter (stands_in k) ps) (filter (stands_in k) qs)
    (same k ∙ ap (λ (n : ℕ).
    cond (n == k) (q ∷ filter (stands_in k) qs) (filter (stands_in k) qs)) tie)) in
    cc

pub order-only : (ps qs : List Patch) → IsNonDecreasingBy (λ p. p.block) qs
    → ((k : ℕ) → filter (stands_in k) qs ≡ filter (stands_in k) ps) → qs ≡ order ps
order-only ps qs rises same =
    same_rising qs (order ps) rises (order-rises ps) (λ k. same k ∙ sym (filter-order ps k))
