-- A source and a sink, as contracts see them.
use Rattle.std.specs.Prelude.{◌≡◌, ℕ, ◌<◌, Bool, List, ◌++◌, Option}
use Rattle.std.specs.Borrow.{MutBor}

-- a source: the bytes that are still to be read, if they are known; the number of bytes read, known
-- or not; the number of failed reads; and whether the last read returned 0 bytes. The last is false
-- before the first read, unless the source adapts one that has ended
pub record Incoming : Type 0 where
  pub rest : Option (List ℕ)
  pub given : ℕ
  pub failures : ℕ
  pub ended : Bool

-- a sink: the bytes written to it, if they are known; the number of bytes written, known or not;
-- the number of flushes; the number of failed writes and flushes; and whether the last call of
-- `write` or `finish` was a `finish` that succeeded. No call changes the last two fields: whether a
-- flush may fail at all, and, if the bytes go to a slice, the slice as it was lent
pub record Outgoing : Type 0 where
  pub written : Option (List ℕ)
  pub taken : ℕ
  pub flushes : ℕ
  pub failures : ℕ
  pub finished : Bool
  pub flush_may_fail : Bool
  pub lent : Option (MutBor (List ℕ))

-- the largest number of failures that a source or a sink can count
abbrev pub failure_limit : ℕ
failure_limit = 4294967295

-- one more failure can be counted
abbrev pub CanCountFailure : ℕ → Type 0
CanCountFailure failures = failures < failure_limit

-- the list begins with this front
abbrev pub IsBeginning : List ℕ → List ℕ → Type 0
IsBeginning front whole = (more : List ℕ) × (whole ≡ front ++ more)
