-- The comment by which a script names the block of its image's first sector, such as `# base 150`.
use Rattle.std.specs.Prelude.{ℕ, ◌+◌, ◌==◌, nat_eq, if◌then◌else◌, List, [], ◌∷◌, codes, drop, Option, Some, None}
use Rattle.std.specs.List.{starts_with}
use Rattle.cd_script.specs.Number.{number}
use Rattle.cd_script.specs.Words.{is_space}
use Rattle.cd_c_scripts.specs.declared.bases.NamedBase.{NamedBase}

-- a byte before others; nothing if it is a space or tab, and there are no others
abbrev pub before : ℕ → List ℕ → List ℕ
before b [] = if is_space b then [] else b ∷ []
before b (c ∷ rest) = b ∷ c ∷ rest

-- a line without the spaces and tabs at its end
abbrev pub trimmed : List ℕ → List ℕ
trimmed [] = []
trimmed (b ∷ rest) = before b (trimmed rest)

-- the number after `# base `, if a line begins with these words
abbrev pub base_after : List ℕ → Option ℕ
base_after line =
    if starts_with nat_eq line (codes "# base ") then number (drop 7 line) else None

-- the base that a line names
abbrev pub named_base : List ℕ → Option ℕ
named_base line = base_after (trimmed line)

-- a line and the base that it names, if this is not the base of the image
abbrev pub other_base : ℕ → ℕ → Option ℕ → Option NamedBase
other_base base line None = None
other_base base line (Some named) =
    if named == base then None else Some (record { line = line; base = named; spare = 0 })

-- the first of two, or else the second
abbrev pub first_of : Option NamedBase → Option NamedBase → Option NamedBase
first_of (Some found) later = Some found
first_of None later = later

-- the first of these lines that names another base; the first line has the number `line`
abbrev pub first_other : ℕ → ℕ → List (List ℕ) → Option NamedBase
first_other base line [] = None
first_other base line (text ∷ rest) =
    first_of (other_base base line (named_base text)) (first_other base (line + 1) rest)
