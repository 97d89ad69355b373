-- The meaning of one line of a script by itself, for a reader that receives one line at a time.
use Rattle.std.specs.Prelude.{◌≡◌, ℕ, ◌+◌, List, [], ◌∷◌, length, Option, Some, None, Result, Ok, Err, if◌then◌else◌}
use Rattle.std.specs.List.{cons_option}
use Rattle.std.specs.Option.{option_to_list}
use Rattle.std.specs.Str.Lines.{lines}
use Rattle.cd_script.specs.declared.fault.ScriptFault.{ScriptFault}
use Rattle.cd_script.specs.declared.fault.ScriptFault.TheVariants.{Head}
use Rattle.cd_script.specs.PatchForm.{Patch}
use Rattle.cd_script.specs.declared.version.Version.{Version}
use Rattle.cd_script.specs.declared.by_line.LineContent.{LineContent}
use Rattle.cd_script.specs.declared.by_line.LineContent.TheVariants as content
use Rattle.cd_script.specs.FirstFault.{◌>>=◌}
use Rattle.cd_script.specs.Patch.{IsPatch}
use Rattle.cd_script.specs.Script.{head_version, is_passed_over, line_at, script}
use Rattle.cd_script.specs.Words.{words}

-- the version of the head line, or the error that the line is not the head line
abbrev pub head_or_fault : ℕ → Option Version → Result (Option Version) ScriptFault
head_or_fault line None = Err (Head line)
head_or_fault line (Some version) = Ok (Some version)

-- the version of a line that no head line precedes, none if it is blank or a comment
unfoldable pub head_at : ℕ → List ℕ → Result (Option Version) ScriptFault
head_at line text =
    if is_passed_over (words text) then Ok None
    else head_or_fault line (head_version (words text))

-- the meaning of a line that no head line precedes, from the version found in it
abbrev pub head_meaning : Option Version → LineContent
head_meaning None = content.PassedOver
head_meaning (Some version) = content.Head version

-- the meaning of a line after the head line, from the patch found in it
abbrev pub patch_meaning : Option Patch → LineContent
patch_meaning None = content.PassedOver
patch_meaning (Some p) = content.Patch p

-- the meaning of a line after a head line of this version and `earlier` patches, or its error;
-- `None` if there was no head line before
abbrev pub meaning_at : Option Version → ℕ → ℕ → List ℕ → Result LineContent ScriptFault
meaning_at None line earlier text = head_at line text >>= λ found. Ok (head_meaning found)
meaning_at (Some version) line earlier text =
    line_at version line earlier text >>= λ found. Ok (patch_meaning found)

-- the version after a line with this meaning
abbrev pub version_after : Option Version → LineContent → Option Version
version_after version (content.Head named) = Some named
version_after version content.PassedOver = version
version_after version (content.Patch p) = version

-- the patch of a line with this meaning
abbrev pub patch_in : LineContent → Option Patch
patch_in (content.Patch p) = Some p
patch_in content.PassedOver = None
patch_in (content.Head named) = None

-- the end of a text, where `line` is one more than the number of its last line: no more patches, or
-- the error that there was no head line
abbrev pub end_at : Option Version → ℕ → Result (List Patch) ScriptFault
end_at None line = Err (Head line)
end_at (Some version) line = Ok []

-- the patches of lines, each read by itself; the first has the number `line`
unfoldable pub by_line : Option Version → ℕ → ℕ → List (List ℕ) → Result (List Patch) ScriptFault
by_line version line earlier [] = end_at version line
by_line version line earlier (text ∷ rest) = do
  meaning ← meaning_at version line earlier text
  others ← by_line (version_after version meaning) (line + 1)
      (earlier + length (option_to_list (patch_in meaning))) rest
  Ok (cons_option (patch_in meaning) others)

-- if the lines of a text are read one after the other, each by itself, the result is its script or
-- its first error
abbrev pub ReadsByLine : Type 0
ReadsByLine = (text : List ℕ) → script text ≡ by_line None 1 0 (lines text)

-- the patch of a line, if it has one, keeps to the limits
abbrev pub KeepsToLimits : LineContent → Type 0
KeepsToLimits (content.Patch p) = IsPatch p
KeepsToLimits content.PassedOver = Unit {0}
KeepsToLimits (content.Head named) = Unit {0}
