-- The text that spells a list of patches.
use Rattle.std.specs.Prelude.{◌≡◌, ℕ, ◌+◌, ◌/◌, ◌%◌, ◌<◌, ◌≤◌, Bool, true, false, List, [], ◌∷◌, ◌++◌, length, codes, All, Some, None, Ok}
use Rattle.std.specs.Fmt.{decimal}
use Rattle.std.specs.List.{flat_map, join_with_byte}
use Rattle.std.specs.Str.Lines.{lines}
use Rattle.hex.specs.Hex.{encode_upper}
use Rattle.cd_script.specs.PatchForm.{Edit, Patch}
use Rattle.cd_script.specs.declared.patch.Edit.TheVariants.{Put, Fill, Rebuild, Address}
use Rattle.cd_script.specs.declared.version.Version.{Version}
use Rattle.cd_script.specs.declared.version.Version.TheVariants.{One, Two}
use Rattle.cd_script.specs.Limits.{patch_limit}
use Rattle.cd_script.specs.Patch.{IsPatch}
use Rattle.cd_script.specs.Script.{script}
use Rattle.cd_script.specs.ByLine.{meaning_at}
use Rattle.cd_script.specs.declared.by_line.LineContent.TheVariants as content

-- the high decimal digit of a byte in BCD
abbrev pub high_digit : ℕ → ℕ
high_digit b = 48 + b / 16

-- the low decimal digit of a byte in BCD
abbrev pub low_digit : ℕ → ℕ
low_digit b = 48 + b % 16

-- the three bytes of an address as MM:SS:FF
unfoldable pub address_word : List ℕ → List ℕ
address_word (minute ∷ second ∷ fraction ∷ []) =
    high_digit minute ∷ low_digit minute ∷ 58 ∷ high_digit second ∷ low_digit second ∷ 58
    ∷ high_digit fraction ∷ low_digit fraction ∷ []
address_word other = []

-- the words of the form that spells an edit
unfoldable pub edit_words : ℕ → ℕ → Edit → List (List ℕ)
edit_words block offset (Put bytes None) =
    codes "set" ∷ decimal block ∷ decimal offset ∷ encode_upper bytes ∷ []
edit_words block offset (Put bytes (Some old)) =
    codes "set" ∷ decimal block ∷ decimal offset ∷ encode_upper bytes
    ∷ codes "was" ∷ encode_upper old ∷ []
edit_words block offset (Fill count value) =
    codes "fill" ∷ decimal block ∷ decimal offset ∷ decimal count ∷ encode_upper (value ∷ []) ∷ []
edit_words block offset Rebuild = codes "rebuild" ∷ decimal block ∷ []
edit_words block offset (Address bcd) = codes "address" ∷ decimal block ∷ address_word bcd ∷ []

-- words separated by spaces, and a line feed at the end
abbrev pub spelled_line : List (List ℕ) → List ℕ
spelled_line ws = join_with_byte 32 ws ++ 10 ∷ []

-- the line that spells a patch
abbrev pub spelled_patch : Patch → List ℕ
spelled_patch p = spelled_line (edit_words p.block p.offset p.edit)

-- the word that names a version
abbrev pub version_word : Version → List ℕ
version_word One = codes "1"
version_word Two = codes "2"

-- the head line, and a line for each patch
abbrev pub spelling : Version → List Patch → List ℕ
spelling version ps =
    spelled_line (codes "cdpatch" ∷ version_word version ∷ []) ++ flat_map spelled_patch ps

-- whether a version has a form for an edit; the first version has none for an address
abbrev pub has_form : Version → Edit → Bool
has_form One (Put bytes was) = true
has_form One (Fill count value) = true
has_form One Rebuild = true
has_form One (Address bcd) = false
has_form Two edit = true

-- the patches with the numbers of consecutive lines, the first of which has the number `line`
unfoldable pub on_lines_from : ℕ → List Patch → List Patch
on_lines_from line [] = []
on_lines_from line (p ∷ ps) = record p { line = line } ∷ on_lines_from (line + 1) ps

-- after a head line of each version that has a form for a patch, the text is one line, which is read
-- as this patch
pub record IsReadAs (text : List ℕ) (p : Patch) : Type 0 where
  pub line : List ℕ
  pub one : (rest : List ℕ) → lines (text ++ rest) ≡ line ∷ lines rest
  pub reads : (version : Version) (number earlier : ℕ) → has_form version p.edit ≡ true
      → earlier < patch_limit
      → meaning_at (Some version) number earlier line
      ≡ Ok (content.Patch (record p { line = number }))

-- the text that spells patches, in a version that has forms for them, is a script of exactly these
-- patches, on the lines after the head line
abbrev pub SpellingReads : Type 0
SpellingReads =
    (version : Version) (ps : List Patch) → All IsPatch ps
    → All (λ p. has_form version p.edit ≡ true) ps → length ps ≤ patch_limit
    → script (spelling version ps) ≡ Ok (on_lines_from 2 ps)
