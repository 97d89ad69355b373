-- The parity bytes that depend on a byte of a sector, and their changes (ECMA-130, Annex A). Place
-- n of a plane is in row n / 43 and column n % 43; rows 24 and 25 are the P parity.
use Rattle.std.specs.Prelude.{ℕ, ◌+◌, ◌-◌, ◌/◌, ◌%◌, List, [], ◌∷◌, ◌++◌, fold}
use Rattle.cd_code.specs.Syndrome.{with_added}
use Rattle.cd_code.specs.CodeWords.{diagonal_pair, place_of}
use Rattle.cd_delta.specs.declared.changes.Change.{Change}

-- the sector with each change's `d` added to the byte at its place
abbrev pub with_changes : List ℕ → List Change → List ℕ
with_changes s changes = fold (λ t c. with_added t c.place c.d) s changes

-- the diagonal through a row and a column
abbrev pub diagonal_at : ℕ → ℕ → ℕ
diagonal_at row column = (row + 52 - column) % 26

-- the two parity bytes of a column
abbrev pub column_pair : ℕ → ℕ → List ℕ
column_pair plane n = place_of plane (1032 + n) ∷ place_of plane (1075 + n) ∷ []

-- the parity bytes of the column of a byte, of the diagonal through the byte, and of the diagonals
-- through the two of the column, from the byte's plane, row and column
abbrev pub parity_places_at : ℕ → ℕ → ℕ → List ℕ
parity_places_at plane row column =
    column_pair plane column ++ (diagonal_pair plane (diagonal_at row column)
    ++ (diagonal_pair plane (diagonal_at 24 column) ++ diagonal_pair plane (diagonal_at 25 column)))

-- the parity bytes that depend on the byte at a place of the sector, 12 to 2075
unfoldable pub parity_places : ℕ → List ℕ
parity_places place = parity_places_at (place % 2) ((place - 12) / 2 / 43) ((place - 12) / 2 % 43)
