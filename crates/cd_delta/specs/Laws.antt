-- A consequence of the definition of diagonals. The law is a contract of `laws.rt`.
use Rattle.std.specs.Prelude.{◌≡◌, ◌↔◌, ℕ, ◌+◌, ◌*◌, ◌<◌, slice_index}
use Rattle.cd_code.specs.CodeWords.{diagonal_places, place_of}
use Rattle.cd_delta.specs.ParityChanges.{diagonal_at}

-- the place in a row and a column is in the diagonal of their difference, at the index of the
-- column, and nowhere else in any diagonal
abbrev pub OneDiagonal : Type 0
OneDiagonal =
    (plane row column l n k : ℕ) → plane < 2 → row < 26 → column < 43 → l < 2 → n < 26 → k < 45
    → (slice_index (diagonal_places l n) k ≡ place_of plane (43 * row + column))
    ↔ ((l ≡ plane) × (n ≡ diagonal_at row column) × (k ≡ column))
