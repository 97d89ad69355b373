-- Lists by `slice_get`: the element at an index, or none.
use Rattle.std.proofs.Common.{◌≡◌, ℕ, zero, suc, ◌+◌, ◌-◌, ◌<◌, ◌≤◌, ◌⊎◌, inl, inr, List, [], ◌∷◌, ◌++◌, length, get_or, take, drop, Option, Some, None, refl, subst, sym, ap, ◌∙◌, arith}
use Rattle.std.specs.List.{slice_get}
use Rattle.std.proofs.lemmas.List.{get_or_default, get_or-take, length-take-le, take_all}
use Rattle.std.proofs.lemmas.Option.{none-some, same_Some}

pub slice_get-append_left : {X : Type 0} (xs ys : List X) (i : ℕ) → i < length xs
    → slice_get (xs ++ ys) i ≡ slice_get xs i
slice_get-append_left [] ys i h = absurd (omega arith)
slice_get-append_left (x ∷ xs) ys zero h = refl
slice_get-append_left (x ∷ xs) ys (suc i) h = slice_get-append_left xs ys i (omega arith)

pub slice_get-append_right : {X : Type 0} (xs ys : List X) (i n : ℕ) → n ≡ length xs + i
    → slice_get (xs ++ ys) n ≡ slice_get ys i
slice_get-append_right [] ys i n e = let f : n ≡ i = omega arith in ap (slice_get ys) f
slice_get-append_right (x ∷ xs) ys i zero e = absurd (omega arith)
slice_get-append_right (x ∷ xs) ys i (suc n) e = slice_get-append_right xs ys i n (omega arith)

pub slice_get-take : {X : Type 0} (n : ℕ) (xs : List X) (i : ℕ) → i < n
    → slice_get (take n xs) i ≡ slice_get xs i
slice_get-take zero xs i h = absurd (omega arith)
slice_get-take (suc n) [] i h = refl
slice_get-take (suc n) (x ∷ xs) zero h = refl
slice_get-take (suc n) (x ∷ xs) (suc i) h = slice_get-take n xs i (omega arith)

pub slice_get-drop : {X : Type 0} (n : ℕ) (xs : List X) (i : ℕ)
    → slice_get (drop n xs) i ≡ slice_get xs (n + i)
slice_get-drop zero xs i = let e : zero + i ≡ i = omega arith in ap (slice_get xs) (sym e)
slice_get-drop (suc n) [] i = refl
slice_get-drop (suc n) (x ∷ xs) i =
    let e : suc (n + i) ≡ suc n + i = omega arith in
    slice_get-drop n xs i ∙ ap (slice_get (x ∷ xs)) e

-- an element of the front of a list, whatever the default past its end
pub get_or-take_default : {X : Type 0} (xs : List X) (n k : ℕ) (d e : X) → n ≤ length xs
    → k < length (take n xs)
    → get_or (take n xs) k d ≡ get_or xs k e
get_or-take_default xs n k d e room inside =
    let size = length-take-le n xs room in
    get_or-take n xs k d (omega arith) ∙ get_or_default xs k d e (omega arith)

-- the elements from n on are unchanged if the first n are replaced by as many others
pub slice_get-append_drop : {X : Type 0} (front xs : List X) (n k : ℕ) → length front ≡ n → n ≤ k
    → slice_get (front ++ drop n xs) k ≡ slice_get xs k
slice_get-append_drop front xs n k long after =
    let place : n + (k - n) ≡ k = omega arith in
    slice_get-append_right front (drop n xs) (k - n) k (omega arith)
    ∙ slice_get-drop n xs (k - n) ∙ ap (slice_get xs) place

pub same_take : {X : Type 0} (n : ℕ) (xs ys : List X)
    → ((i : ℕ) → i < n → slice_get xs i ≡ slice_get ys i) → take n xs ≡ take n ys
same_take zero xs ys h = refl
same_take (suc n) [] [] h = refl
same_take (suc n) [] (y ∷ ys) h = absurd (none-some y (h 0 (omega arith)))
same_take (suc n) (x ∷ xs) [] h = absurd (none-some x (sym (h 0 (omega arith))))
same_take (suc n) (x ∷ xs) (y ∷ ys) h =
    ap (λ t. t ∷ take n xs) (same_Some x y (h 0 (omega arith)))
    ∙ ap (λ l. y ∷ l) (same_take n xs ys (λ i k. h (suc i) (omega arith)))

-- two lists are equal if they have equal elements
pub same_elements : {X : Type 0} (xs ys : List X) → ((i : ℕ) → slice_get xs i ≡ slice_get ys i)
    → xs ≡ ys
same_elements xs ys h =
    let n = length xs + length ys in
    sym (take_all n xs (omega arith)) ∙ same_take n xs ys (λ i below. h i)
    ∙ take_all n ys (omega arith)

pub cases_Option : {X : Type 0} (o : Option X) → (o ≡ None) ⊎ ((x : X) × (o ≡ Some x))
cases_Option None = inl refl
cases_Option (Some x) = inr (x, refl)

-- if each index has an element with a property, there is a list of such elements
pub list_of_choices : {X : Type 0} (P : ℕ → X → Type 0) (n : ℕ)
    → ((i : ℕ) → i < n → (x : X) × P i x)
    → (xs : List X) × (length xs ≡ n) × ((i : ℕ) (x : X) → slice_get xs i ≡ Some x → P i x)
list_of_choices P zero h = ([], refl, λ i x e. absurd (none-some x e))
list_of_choices {X} P (suc n) h =
    let first = h 0 (omega arith) in
    let others = list_of_choices (λ i. P (suc i)) n (λ i below. h (suc i) (omega arith)) in
    (first.0 ∷ others.0, ap (λ k. suc k) others.1, joined first.0 others.0 first.1 others.2)
  where
    joined : (x : X) (xs : List X) → P 0 x
        → ((i : ℕ) (y : X) → slice_get xs i ≡ Some y → P (suc i) y) → (i : ℕ) (y : X)
        → slice_get (x ∷ xs) i ≡ Some y → P i y
    joined x xs here after zero y e = subst (P 0) (same_Some x y e) here
    joined x xs here after (suc i) y e = after i y e
