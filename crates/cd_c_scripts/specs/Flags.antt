-- The flags of a call: 1 if damage is carried, 2 if the image ends with the piece, 4 if old bytes are
-- not compared. `cdpatch.h` has the same numbers.
use Rattle.std.specs.Prelude.{ℕ, ◌/◌, ◌%◌, ◌==◌, Bool, List, map, if◌then◌else◌}
use Rattle.cd_script.specs.PatchForm.{Patch, without_old}

-- all flags are below this number
abbrev pub flag_limit : ℕ
flag_limit = 8

-- whether damage is carried
abbrev pub carries : ℕ → Bool
carries flags = flags / 1 % 2 == 1

-- whether the image ends with the piece
abbrev pub ends : ℕ → Bool
ends flags = flags / 2 % 2 == 1

-- whether old bytes are compared
abbrev pub compares : ℕ → Bool
compares flags = flags / 4 % 2 == 0

-- a patch as the flags require it
abbrev pub as_asked : ℕ → Patch → Patch
as_asked flags p = if compares flags then p else without_old p

-- patches as the flags require them
abbrev pub all_as_asked : ℕ → List Patch → List Patch
all_as_asked flags ps = map (as_asked flags) ps
