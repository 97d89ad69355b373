-- The difference between versions 1 and 2 of the language: what is unchanged, and what is new.
use Rattle.std.specs.Prelude.{◌≡◌, ◌≢◌, ℕ, ◌+◌, ◌&&◌, Bool, false, List, [], ◌∷◌, length, codes, All, Option, Some, None, Result, Ok, Err, if◌then◌else◌}
use Rattle.std.specs.List.{cons_option}
use Rattle.std.specs.Option.{option_to_list}
use Rattle.std.specs.Str.{bytes_eq}
use Rattle.std.specs.Str.Lines.{lines}
use Rattle.cd_script.specs.declared.fault.ScriptFault.{ScriptFault}
use Rattle.cd_script.specs.declared.fault.ScriptFault.TheVariants.{Head}
use Rattle.cd_script.specs.PatchForm.{Patch}
use Rattle.cd_script.specs.declared.version.Version.{Version}
use Rattle.cd_script.specs.declared.version.Version.TheVariants.{One, Two}
use Rattle.cd_script.specs.Line.{patch_at}
use Rattle.cd_script.specs.FirstFault.{◌>>=◌}
use Rattle.cd_script.specs.Script.{at_limit, head_version, is_passed_over, patches_from, script}
use Rattle.cd_script.specs.Words.{words}

-- ---- a text, read as when there was only one version

-- the words are `cdpatch` and `1`
abbrev pub is_first_head : List (List ℕ) → Bool
is_first_head (name ∷ version ∷ []) =
    bytes_eq name (codes "cdpatch") && bytes_eq version (codes "1")
is_first_head other = false

-- `line_at` as it was when there was only one version
unfoldable pub first_line_at : ℕ → ℕ → List ℕ → Result (Option Patch) ScriptFault
first_line_at line earlier text =
    if is_passed_over (words text) then Ok None
    else patch_at line (words text) >>= at_limit line earlier

-- `patches_from` as it was when there was only one version
unfoldable pub first_patches_from : ℕ → ℕ → List (List ℕ) → Result (List Patch) ScriptFault
first_patches_from line earlier [] = Ok []
first_patches_from line earlier (text ∷ rest) = do
  found ← first_line_at line earlier text
  others ← first_patches_from (line + 1) (earlier + length (option_to_list found)) rest
  Ok (cons_option found others)

-- `script_from` as it was when there was only one version
unfoldable pub first_script_from : ℕ → List (List ℕ) → Result (List Patch) ScriptFault
first_script_from line [] = Err (Head line)
first_script_from line (text ∷ rest) =
    if is_passed_over (words text) then first_script_from (line + 1) rest
    else if is_first_head (words text) then first_patches_from (line + 1) 0 rest
    else Err (Head line)

-- `script` as it was when there was only one version, for the law that only `cdpatch 2` changes the
-- meaning of a text
abbrev pub first_script : List ℕ → Result (List Patch) ScriptFault
first_script text = first_script_from 1 (lines text)

-- ---- the laws

-- the version that the head line of these lines names
unfoldable pub version_of : List (List ℕ) → Option Version
version_of [] = None
version_of (text ∷ rest) =
    if is_passed_over (words text) then version_of rest else head_version (words text)

-- a text whose head line does not name the second version means the same as before
abbrev pub FirstStays : Type 0
FirstStays = (text : List ℕ) → version_of (lines text) ≢ Some Two → script text ≡ first_script text

-- the first word is `address`
abbrev pub has_new_verb : List (List ℕ) → Bool
has_new_verb [] = false
has_new_verb (verb ∷ rest) = bytes_eq verb (codes "address")

-- lines without the verb of the second version mean the same in both versions
abbrev pub SecondExtends : Type 0
SecondExtends =
    (line earlier : ℕ) (texts : List (List ℕ))
    → All (λ text. has_new_verb (words text) ≡ false) texts
    → patches_from Two line earlier texts ≡ patches_from One line earlier texts
