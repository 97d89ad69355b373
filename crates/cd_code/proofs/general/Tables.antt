-- A test that is computed for all numbers below n, and the rule for each of them.
use Rattle.std.proofs.Common.{◌≡◌, ℕ, ◌<◌, true, nat_lt}
use Rattle.std.specs.Bool.{◌==◌}
use Rattle.std.proofs.lemmas.Bool.{agree_below, agree_below_at, eqb-true, ltb-true}

-- two functions are equal below n
pub equal_below : (f g : ℕ → ℕ) (n : ℕ) → agree_below (λ i. f i == g i) (λ _. true) n ≡ true
    → (i : ℕ) → i < n → f i ≡ g i
equal_below f g n all i h =
    eqb-true (f i) (g i) (agree_below_at (λ k. f k == g k) (λ _. true) n i all h)

-- a function has a bound for numbers below n
pub bounded_below : (f : ℕ → ℕ) (bound n : ℕ)
    → agree_below (λ i. nat_lt (f i) bound) (λ _. true) n ≡ true → (i : ℕ) → i < n → f i < bound
bounded_below f bound n all i h =
    ltb-true (f i) bound (agree_below_at (λ k. nat_lt (f k) bound) (λ _. true) n i all h)
