-- The lines of a report.
use Rattle.std.specs.Prelude.{ℕ, ◌==◌, List, [], ◌∷◌, count_by}
use Rattle.std.specs.List.{flat_map}

-- the bytes of lines, one after the other
abbrev pub text_of : List (List ℕ) → List ℕ
text_of lines = flat_map (λ line. line) lines

-- how many lines a text has: each ends with LF
abbrev pub line_count : List ℕ → ℕ
line_count text = count_by (λ b. b == 10) text

-- a list without its last member
abbrev pub all_but_last : {X : Type 0} → List X → List X
all_but_last [] = []
all_but_last (x ∷ []) = []
all_but_last (x ∷ y ∷ ys) = x ∷ all_but_last (y ∷ ys)
