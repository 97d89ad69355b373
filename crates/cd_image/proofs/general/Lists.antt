-- Lists that are cut in two.
use Rattle.std.proofs.Common.{◌≡◌, ℕ, ◌≤◌, List, ◌++◌, length, take, drop, arith, append_assoc, take-append-drop}
use Rattle.std.proofs.Math.ListN.{length-take}

-- a list cut in two, with more after it
pub cut_at : (n : ℕ) (l more : List ℕ) → take n l ++ (drop n l ++ more) ≡ l ++ more
cut_at n l more = rw (← append_assoc, take-append-drop)

-- a list cut in two, after a front and with more after it
pub cut_after : (n : ℕ) (front l rest end : List ℕ)
    → front ++ ((l ++ rest) ++ end) ≡ (front ++ take n l) ++ (drop n l ++ (rest ++ end))
cut_after n front l rest end = rw (append_assoc, append_assoc, cut_at)

-- a list whose front has n elements has at least n elements
pub long_enough : (n : ℕ) (l : List ℕ) → length (take n l) ≡ n → n ≤ length l
long_enough n l is = omega (arith, is, length-take n l)
