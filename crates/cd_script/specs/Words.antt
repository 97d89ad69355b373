-- The words of a line of a script.
use Rattle.std.specs.Prelude.{ℕ, ◌==◌, ◌||◌, not, Bool, List, length, filter}
use Rattle.std.specs.List.{slice_split}

-- space and tab
abbrev pub is_space : ℕ → Bool
is_space b = b == 32 || b == 9

-- a part that is not empty
abbrev pub is_word : List ℕ → Bool
is_word part = not (length part == 0)

-- the parts between spaces and tabs that are not empty
unfoldable pub words : List ℕ → List (List ℕ)
words line = filter is_word (slice_split is_space line)
