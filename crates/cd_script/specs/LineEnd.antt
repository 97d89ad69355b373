-- The end of a line in a script's text.
use Rattle.std.specs.Prelude.{◌≡◌, ℕ, ◌⊎◌, List, [], ◌∷◌, length, slice_range}

-- between the first line of a text, of `size` bytes, and the next line, `taken` bytes from the
-- front, there is a line feed, a carriage return and a line feed, or nothing at the end of the text
abbrev pub IsLineEnd : List ℕ → ℕ → ℕ → Type 0
IsLineEnd text size taken =
    (slice_range text size taken ≡ 10 ∷ []) ⊎ ((slice_range text size taken ≡ 13 ∷ 10 ∷ [])
    ⊎ ((size ≡ taken) × (taken ≡ length text)))
