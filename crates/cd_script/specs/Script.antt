-- The patches of a script, or the error of its first faulty line.
use Rattle.std.specs.Prelude.{ℕ, ◌+◌, ◌==◌, nat_le, Bool, true, false, List, [], ◌∷◌, length, codes, Option, Some, None, Result, Ok, Err, if◌then◌else◌}
use Rattle.std.specs.List.{cons_option}
use Rattle.std.specs.Option.{option_to_list}
use Rattle.std.specs.Str.{bytes_eq}
use Rattle.std.specs.Str.Lines.{lines}
use Rattle.cd_script.specs.declared.fault.ScriptFault.{ScriptFault}
use Rattle.cd_script.specs.declared.fault.ScriptFault.TheVariants.{Head, TooMany}
use Rattle.cd_script.specs.PatchForm.{Patch}
use Rattle.cd_script.specs.declared.version.Version.{Version}
use Rattle.cd_script.specs.declared.version.Version.TheVariants.{One, Two}
use Rattle.cd_script.specs.Limits.{patch_limit}
use Rattle.cd_script.specs.Line.{patch_by}
use Rattle.cd_script.specs.FirstFault.{◌>>=◌}
use Rattle.cd_script.specs.Words.{words}

-- the word begins with `#`
abbrev pub begins_comment : List ℕ → Bool
begins_comment [] = false
begins_comment (b ∷ rest) = b == 35

-- the words are those of a blank line or a comment
abbrev pub is_passed_over : List (List ℕ) → Bool
is_passed_over [] = true
is_passed_over (first ∷ rest) = begins_comment first

-- the version that the second word of a head line names
abbrev pub named_version : List ℕ → Option Version
named_version word =
    if bytes_eq word (codes "1") then Some One
    else if bytes_eq word (codes "2") then Some Two
    else None

-- the version of a head line, whose words are `cdpatch` and the number of the version
abbrev pub head_version : List (List ℕ) → Option Version
head_version (name ∷ version ∷ []) =
    if bytes_eq name (codes "cdpatch") then named_version version else None
head_version other = None

-- a well-formed patch after `earlier` others, or the error that these are as many as a script may
-- have
abbrev pub at_limit : ℕ → ℕ → Patch → Result (Option Patch) ScriptFault
at_limit line earlier p = if nat_le patch_limit earlier then Err (TooMany line) else Ok (Some p)

-- the patch of a line after `earlier` others, or none if the line is blank or a comment
unfoldable pub line_at : Version → ℕ → ℕ → List ℕ → Result (Option Patch) ScriptFault
line_at version line earlier text =
    if is_passed_over (words text) then Ok None
    else patch_by version line (words text) >>= at_limit line earlier

-- the patches of the lines after the head line, the first of which has the number `line`, after
-- `earlier` patches
unfoldable pub patches_from : Version → ℕ → ℕ → List (List ℕ) → Result (List Patch) ScriptFault
patches_from version line earlier [] = Ok []
patches_from version line earlier (text ∷ rest) = do
  found ← line_at version line earlier text
  others ← patches_from version (line + 1) (earlier + length (option_to_list found)) rest
  Ok (cons_option found others)

-- the patches of the lines after a line that may be the head line
abbrev pub patches_after : ℕ → Option Version → List (List ℕ) → Result (List Patch) ScriptFault
patches_after line None rest = Err (Head line)
patches_after line (Some version) rest = patches_from version (line + 1) 0 rest

-- the patches after the head line of these lines, the first of which has the number `line`
unfoldable pub script_from : ℕ → List (List ℕ) → Result (List Patch) ScriptFault
script_from line [] = Err (Head line)
script_from line (text ∷ rest) =
    if is_passed_over (words text) then script_from (line + 1) rest
    else patches_after line (head_version (words text)) rest

-- the patches of a text, in the order of its lines
abbrev pub script : List ℕ → Result (List Patch) ScriptFault
script text = script_from 1 (lines text)
