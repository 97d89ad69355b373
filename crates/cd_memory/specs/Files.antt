-- Files by their names.
use Rattle.std.specs.Prelude.{ℕ, List, Option, None, Some, option_map, slice_set}
use Rattle.std.specs.List.{find, position}
use Rattle.std.specs.Str.{bytes_eq}

-- a file
pub record NamedFile : Type 0 where
  pub name : List ℕ
  pub bytes : List ℕ

-- a file with this name and these bytes
abbrev pub named_file : List ℕ → List ℕ → NamedFile
named_file name bytes = record { name = name; bytes = bytes }

-- the bytes of the first file of this name, if there is one
abbrev pub file_bytes : List NamedFile → List ℕ → Option (List ℕ)
file_bytes files name = option_map (λ f. f.bytes) (find (λ f. bytes_eq f.name name) files)

-- plumbing of `with_bytes`: the files, with `file` at the place, if there is one
abbrev pub with_file : List NamedFile → Option ℕ → NamedFile → List NamedFile
with_file files None file = files
with_file files (Some place) file = slice_set files place file

-- the files, with the bytes of the first file of this name replaced by these
abbrev pub with_bytes : List NamedFile → List ℕ → List ℕ → List NamedFile
with_bytes files name bytes =
    with_file files (position (λ f. bytes_eq f.name name) files) (named_file name bytes)
