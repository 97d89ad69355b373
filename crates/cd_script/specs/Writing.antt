-- Plumbing of `write_patch`: a text that is written part by part.
use Rattle.std.specs.Prelude.{◌≡◌, ℕ, ◌+◌, ◌<◌, ◌≤◌, List, [], ◌++◌, length, take, drop, codes, Option, Some, None}
use Rattle.hex.specs.Hex.{encode_upper}

-- a text is written to a room at `at`, up to `end`, and no other byte changes
pub record IsPut (text : List ℕ) (at : ℕ) (old new : List ℕ) (end : ℕ) : Type 0 where
  pub ends : end ≡ at + length text
  pub front : take end new ≡ take at old ++ text
  pub rest : drop end new ≡ drop end old

-- a text of this size is written to the front of a room if it fits, and otherwise nothing
pub record IsLineWritten (text old new : List ℕ) (size : ℕ) : Type 0 where
  pub counts : size ≡ length text
  pub fits : size ≤ length old → new ≡ text ++ drop size old
  pub stays : length old < size → new ≡ old

-- the part of a line that has the old bytes
abbrev pub old_part : Option (List ℕ) → List ℕ
old_part None = []
old_part (Some old) = codes " was " ++ encode_upper old
