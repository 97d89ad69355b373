-- The places of the columns and the diagonals of a plane (ECMA-130, Annex A).
use Rattle.std.proofs.Common.{◌≡◌, ◌↔◌, ℕ, ◌+◌, ◌*◌, ◌%◌, ◌<◌, ◌≤◌, get_or}
use Rattle.std.proofs.Common.{refl, sym, ap, ◌∙◌, arith}
use Rattle.cd_code.specs.CodeWords.{place_of, column_places, diagonal_places}
use Rattle.cd_code.proofs.PlaceLemmas.{length-column_places, length-diagonal_places}
use Rattle.cd_code.proofs.PlaceLemmas.{column_place, diagonal_place}
use Rattle.cd_code.proofs.PlaceLemmas.{diagonal_place-first, diagonal_place-second}
use Rattle.cd_delta.specs.ParityChanges.{diagonal_at}
use Rattle.cd_delta.proofs.WordLemmas.{AreApart, IsIn, Misses, Words}

-- ---- columns

abbrev pub columns : Words
columns = record { places = column_places; count = 43; len = 26 }

-- index k of column n is row k
column_row : (l n k q : ℕ) → IsIn columns l n k q → q ≡ place_of l (43 * k + n)
column_row l n k q is = sym is.at ∙ column_place l n k is.index

-- a place is in only one column
pub columns_apart : AreApart columns
columns_apart = record {
  size = length-column_places;
  below = λ l n k q is. let e = column_row l n k q is in omega arith;
  apart = λ l n k p m i q is other.
      let e = column_row l n k q is in
      let f = column_row p m i q other in
      (omega arith, omega arith, omega arith);
}

-- the byte in a row is at the index of the row in its column
pub in_column : (plane row column q : ℕ) → plane < 2 → row < 26 → column < 43
    → q ≡ place_of plane (43 * row + column) → IsIn columns plane column row q
in_column plane row column q hp hr hc e =
    record { plane = hp; word = hc; index = hr; at = column_place plane column row hr ∙ sym e }

-- no place after the rows is in a column
pub misses_column : (l n q : ℕ) → l < 2 → n < 43 → 2248 ≤ q → Misses (column_places l n) q
misses_column l n q hl hn after k h same =
    let long = length-column_places l n in
    let k_in : k < 26 = omega arith in
    let at = column_place l n k k_in in
    omega arith

-- ---- diagonals

abbrev pub diagonals : Words
diagonals = record { places = diagonal_places; count = 26; len = 45 }

-- the row and the column of byte m of diagonal n
diagonal_number : (m n : ℕ) → m < 43 → n < 26 → (44 * m + 43 * n) % 1118 ≡ 43 * ((m + n) % 26) + m
diagonal_number m n hm hn = omega arith

-- index k of a diagonal is column k; the two parity bytes are at 43 and 44
record IsDiagonalPlace (l n k q : ℕ) : Type 0 where
  pub front : k < 43 → q ≡ place_of l (43 * ((k + n) % 26) + k)
  pub first : k ≡ 43 → q ≡ place_of l (1118 + n)
  pub second : k ≡ 44 → q ≡ place_of l (1144 + n)

-- each place of a diagonal has one of these forms
diagonal_index : (l n k q : ℕ) → IsIn diagonals l n k q → IsDiagonalPlace l n k q
diagonal_index l n k q is =
    let at : (j : ℕ) → k ≡ j → q ≡ get_or (diagonal_places l n) j 0 =
    (λ j e. sym is.at ∙ ap (λ i. get_or (diagonal_places l n) i 0) e) in
    record {
      front = λ h.
          at k refl ∙ diagonal_place l n k h ∙ ap (place_of l) (diagonal_number k n h is.word);
      first = λ e. at 43 e ∙ diagonal_place-first l n;
      second = λ e. at 44 e ∙ diagonal_place-second l n;
    }

-- a place is in only one diagonal
pub diagonals_apart : AreApart diagonals
diagonals_apart = record {
  size = length-diagonal_places;
  below = λ l n k q is. let e = diagonal_index l n k q is in grind arith;
  apart = λ l n k p m i q is other.
      let e = diagonal_index l n k q is in
      let f = diagonal_index p m i q other in
      (grind arith, grind arith, grind arith);
}

-- the byte in a row and a column is at the index of the column in their diagonal
pub in_diagonal : (plane row column q : ℕ) → plane < 2 → row < 26 → column < 43
    → q ≡ place_of plane (43 * row + column)
    → IsIn diagonals plane (diagonal_at row column) column q
in_diagonal plane row column q hp hr hc e =
    let n = diagonal_at row column in
    let number = diagonal_number column n hc (omega arith) in
    let back : (column + n) % 26 ≡ row = omega arith in
    let place = diagonal_place plane n column hc in
    record { plane = hp; word = omega arith; index = omega arith; at = omega arith }

-- the one diagonal of a row and a column
pub one_diagonal-known : (plane row column l n k : ℕ) → plane < 2 → row < 26 → column < 43
    → l < 2 → n < 26 → k < 45
    → (get_or (diagonal_places l n) k 0 ≡ place_of plane (43 * row + column))
    ↔ ((l ≡ plane) × (n ≡ diagonal_at row column) × (k ≡ column))
one_diagonal-known plane row column l n k hp hr hc hl hn hk =
    let q = place_of plane (43 * row + column) in
    let here = in_diagonal plane row column q hp hr hc refl in (
      λ same.
          let m = diagonal_at row column in
          let is : IsIn diagonals l n k q =
          record { plane = hl; word = hn; index = hk; at = same } in
          diagonals_apart.apart l n k plane m column q is here,
      λ is. let at = here.at in cc,
    )
