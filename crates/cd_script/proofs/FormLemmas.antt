-- The borrowed words of a line: the forms are recognised by the number of words and by their bytes.
use Rattle.std.proofs.Common.{◌≡◌, ℕ, zero, suc, List, [], ◌∷◌, length, get_or, map, refl, ap}
use Rattle.std.specs.Borrow.{Bor}

-- the words that are borrowed
abbrev pub seen : List (Bor (List ℕ)) → List (List ℕ)
seen = map (λ w. w.now)

-- there are as many words as borrowed words
pub seen-length : (ws : List (Bor (List ℕ))) → length ws ≡ length (seen ws)
seen-length [] = refl
seen-length (a ∷ ws) = ap suc (seen-length ws)

-- each word is in the place of its borrowed word
pub seen-word : (ws : List (Bor (List ℕ))) (i : ℕ) (d : Bor (List ℕ))
    → (get_or ws i d).now ≡ get_or (seen ws) i d.now
seen-word [] i d = refl
seen-word (a ∷ ws) zero d = refl
seen-word (a ∷ ws) (suc i) d = seen-word ws i d

-- the rules for functions that test the number of the words and their bytes
pub ruleset forms = (seen-length, seen-word)
