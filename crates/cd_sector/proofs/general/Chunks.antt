-- The first chunks of a list.
use Rattle.std.proofs.Common.{◌≡◌, ℕ, zero, suc, ◌+◌, ◌*◌, ◌≤◌, List, length, take, drop, refl, ap, arith}
use Rattle.std.specs.Prelude.{All}
use Rattle.std.specs.Simd.{first_chunks}
use Rattle.std.proofs.lemmas.List.{length-drop, length-take-le}
use Rattle.std.proofs.lemmas.List.Elements.{All-cons}

pub length-first_chunks : (n k : ℕ) (xs : List ℕ) → length (first_chunks n k xs) ≡ k
length-first_chunks n zero xs = refl
length-first_chunks n (suc k) xs = ap suc (length-first_chunks n k (drop n xs))

pub first_chunks-each : (n k : ℕ) (xs : List ℕ) → n * k ≤ length xs
    → All (λ chunk. length chunk ≡ n) (first_chunks n k xs)
first_chunks-each n zero xs h = λ i d below. absurd (omega arith)
first_chunks-each n (suc k) xs h =
    let further : n * suc k ≡ n + n * k = omega arith in
    All-cons (λ chunk. length chunk ≡ n) (take n xs) (first_chunks n k (drop n xs))
    (length-take-le n xs (omega arith))
    (first_chunks-each n k (drop n xs) (omega (arith, length-drop n xs)))
