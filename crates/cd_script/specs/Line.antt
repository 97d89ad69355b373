-- The patch of one line, or the error of the line.
use Rattle.std.specs.Prelude.{ℕ, List, [], ◌∷◌, codes, Some, None, Result, Ok, Err, if◌then◌else◌}
use Rattle.std.specs.Str.{bytes_eq}
use Rattle.cd_script.specs.declared.fault.ScriptFault.{ScriptFault}
use Rattle.cd_script.specs.declared.fault.ScriptFault.TheVariants.{Verb, Words}
use Rattle.cd_script.specs.PatchForm.{Patch}
use Rattle.cd_script.specs.declared.patch.Edit.TheVariants.{Put, Fill, Rebuild, Address}
use Rattle.cd_script.specs.declared.version.Version.{Version}
use Rattle.cd_script.specs.declared.version.Version.TheVariants.{One, Two}
use Rattle.cd_script.specs.FirstFault.{◌>>=◌}
use Rattle.cd_script.specs.Value.{number_at, offset_at, count_at, new_at, old_at, byte_at, address_at}

-- `set BLOCK OFFSET NEW`: the words are read from the left, and the first error decides
unfoldable pub set_patch : ℕ → List ℕ → List ℕ → List ℕ → Result Patch ScriptFault
set_patch line block offset new = do
  b ← number_at line block
  o ← offset_at line offset
  bytes ← new_at line new
  Ok (record { line = line; block = b; offset = o; edit = Put bytes None })

-- `set BLOCK OFFSET NEW was OLD`
unfoldable pub set_if_patch : ℕ → List ℕ → List ℕ → List ℕ → List ℕ → Result Patch ScriptFault
set_if_patch line block offset new old = do
  b ← number_at line block
  o ← offset_at line offset
  bytes ← new_at line new
  was ← old_at line bytes old
  Ok (record { line = line; block = b; offset = o; edit = Put bytes (Some was) })

-- `fill BLOCK OFFSET COUNT BYTE`
unfoldable pub fill_patch : ℕ → List ℕ → List ℕ → List ℕ → List ℕ → Result Patch ScriptFault
fill_patch line block offset count byte = do
  b ← number_at line block
  o ← offset_at line offset
  n ← count_at line count
  value ← byte_at line byte
  Ok (record { line = line; block = b; offset = o; edit = Fill n value })

-- `rebuild BLOCK`
unfoldable pub rebuild_patch : ℕ → List ℕ → Result Patch ScriptFault
rebuild_patch line block = do
  b ← number_at line block
  Ok (record { line = line; block = b; offset = 0; edit = Rebuild })

-- `address BLOCK MM:SS:FF`
unfoldable pub address_patch : ℕ → List ℕ → List ℕ → Result Patch ScriptFault
address_patch line block address = do
  b ← number_at line block
  bcd ← address_at line address
  Ok (record { line = line; block = b; offset = 0; edit = Address bcd })

-- ---- the words after each verb

-- `set`, by the number of words after it
abbrev pub set_line : ℕ → List (List ℕ) → Result Patch ScriptFault
set_line line (block ∷ offset ∷ new ∷ []) = set_patch line block offset new
set_line line (block ∷ offset ∷ new ∷ was ∷ old ∷ []) =
    if bytes_eq was (codes "was") then set_if_patch line block offset new old else Err (Words line)
set_line line other = Err (Words line)

-- `fill`, by the number of words after it
abbrev pub fill_line : ℕ → List (List ℕ) → Result Patch ScriptFault
fill_line line (block ∷ offset ∷ count ∷ byte ∷ []) = fill_patch line block offset count byte
fill_line line other = Err (Words line)

-- `rebuild`, by the number of words after it
abbrev pub rebuild_line : ℕ → List (List ℕ) → Result Patch ScriptFault
rebuild_line line (block ∷ []) = rebuild_patch line block
rebuild_line line other = Err (Words line)

-- `address`, by the number of words after it
abbrev pub address_line : ℕ → List (List ℕ) → Result Patch ScriptFault
address_line line (block ∷ address ∷ []) = address_patch line block address
address_line line other = Err (Words line)

-- the patch that the words of a line spell in version 1 of the language. Version 2 has not changed
-- this definition
unfoldable pub patch_at : ℕ → List (List ℕ) → Result Patch ScriptFault
patch_at line [] = Err (Verb line)
patch_at line (verb ∷ rest) =
    if bytes_eq verb (codes "set") then set_line line rest
    else if bytes_eq verb (codes "fill") then fill_line line rest
    else if bytes_eq verb (codes "rebuild") then rebuild_line line rest
    else Err (Verb line)

-- the patch that the words of a line spell in a version: version 2 has one verb more
unfoldable pub patch_by : Version → ℕ → List (List ℕ) → Result Patch ScriptFault
patch_by One line ws = patch_at line ws
patch_by Two line [] = patch_at line []
patch_by Two line (verb ∷ rest) =
    if bytes_eq verb (codes "address") then address_line line rest else patch_at line (verb ∷ rest)
