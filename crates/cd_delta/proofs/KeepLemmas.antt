-- A changed byte and the eight changes of parity bytes that follow from it keep all syndromes
-- (ECMA-130, Annex A).
use Rattle.std.proofs.Common.{◌≡◌, ◌≢◌, ℕ, ◌+◌, ◌*◌, ◌-◌, ◌/◌, ◌%◌, ◌<◌, ◌≤◌, List, [], ◌∷◌}
use Rattle.std.proofs.Common.{length, nat_eq, sym, ◌∙◌, arith}
use Rattle.std.specs.List.{AllByRecursion, IsDistinct}
use Rattle.std.proofs.lemmas.Bool.Decides.{nat_tests}
use Rattle.cd_code.specs.Field.{AreBytes}
use Rattle.cd_code.specs.Syndrome.{Balances}
use Rattle.cd_code.specs.CodeWords.{SameSyndromes, place_of, bytes_at, column_places}
use Rattle.cd_code.proofs.PlaceLemmas.{diagonal_place-first, diagonal_place-second}
use Rattle.cd_delta.specs.declared.changes.Change.{Change}
use Rattle.cd_delta.specs.ParityChanges.{diagonal_at, parity_places, with_changes}
use Rattle.cd_delta.proofs.AddLemmas.{changed-past, places_of}
use Rattle.cd_delta.proofs.PlaceFacts.{columns, columns_apart, in_column, misses_column}
use Rattle.cd_delta.proofs.PlaceFacts.{diagonals, diagonals_apart, in_diagonal}
use Rattle.cd_delta.proofs.WordLemmas.{IsSector, IsTrio, KeepsSums, Misses}
use Rattle.cd_delta.proofs.WordLemmas.{misses_all, trio_keeps, trio_sector}
use Rattle.cd_delta.proofs.WritingLemmas.{SameSums-trans}

-- the eight changes, two by two: of the byte's column, and of the diagonals through the byte and
-- through the two of the column
pub record Eight : Type 0 where
  pub column : Change × Change
  pub own : Change × Change
  pub first : Change × Change
  pub second : Change × Change

abbrev pub listed : Eight → List Change
listed t =
    t.column.0 ∷ t.column.1 ∷ t.own.0 ∷ t.own.1
    ∷ t.first.0 ∷ t.first.1 ∷ t.second.0 ∷ t.second.1 ∷ []

-- d is added to byte `index` of a word, and its parity, bytes p and q of the plane, is updated
pub record IsPair (plane p q len index d : ℕ) (t : Change × Change) : Type 0 where
  pub first_at : t.0.place ≡ place_of plane p
  pub second_at : t.1.place ≡ place_of plane q
  pub balances : Balances len index d t.0.d t.1.d
  pub nonzero : d ≢ 0 → (t.0.d ≢ 0) × (t.1.d ≢ 0)
  pub bytes : (t.0.d < 256) × (t.1.d < 256)

-- the pair of the diagonal through a cell
abbrev pub IsDiagonalPair : ℕ → ℕ → ℕ → ℕ → Change × Change → Type 0
IsDiagonalPair plane row column d t =
    let n = diagonal_at row column in
    IsPair plane (1118 + n) (1144 + n) 45 column d t

-- a byte before the parity changes, and the eight changes follow from it
pub record AreCarried (byte : Change) (t : Eight) : Type 0 where
  pub plane : ℕ
  pub row : ℕ
  pub column : ℕ
  pub in_plane : plane < 2
  pub in_rows : row < 24
  pub in_columns : column < 43
  pub in_bytes : byte.d < 256
  pub place_at : byte.place ≡ place_of plane (43 * row + column)
  pub of_column : IsPair plane (1032 + column) (1075 + column) 26 row byte.d t.column
  pub of_own : IsDiagonalPair plane row column byte.d t.own
  pub of_first : IsDiagonalPair plane 24 column t.column.0.d t.first
  pub of_second : IsDiagonalPair plane 25 column t.column.1.d t.second

-- changes at places after the rows are in no column
past_columns : (l n : ℕ) → l < 2 → n < 43 → (cs : List Change)
    → AllByRecursion (λ c. 2248 ≤ c.place) cs
    → AllByRecursion (λ c. Misses (column_places l n) c.place) cs
past_columns l n hl hn [] after = tt
past_columns l n hl hn (c ∷ cs) after =
    (misses_column l n c.place hl hn after.0, past_columns l n hl hn cs after.1)

-- the byte and the column's pair are in one column, and the other six in none
columns_keep : {byte : Change} {t : Eight} → AreCarried byte t → (s : List ℕ) → IsSector s
    → KeepsSums columns (with_changes s (byte ∷ listed t)) s
columns_keep {byte} {t} c s sector l n hl hn =
    let ps = column_places l n in
    let three = with_changes s (byte ∷ t.column.0 ∷ t.column.1 ∷ []) in
    let six = t.own.0 ∷ t.own.1 ∷ t.first.0 ∷ t.first.1 ∷ t.second.0 ∷ t.second.1 ∷ [] in
    let is_in = λ (row q : ℕ) (hr : row < 26) (e : q ≡ place_of c.plane (43 * row + c.column)).
    in_column c.plane row c.column q c.in_plane hr c.in_columns e in
    let trio : IsTrio columns c.plane c.column c.row byte t.column.0 t.column.1 =
    record {
      byte = is_in c.row byte.place (omega arith) c.place_at;
      first = is_in 24 t.column.0.place (omega arith) (omega arith);
      second = is_in 25 t.column.1.place (omega arith) (omega arith);
      balances = c.of_column.balances;
      low = (c.in_bytes, c.of_column.bytes.0, c.of_column.bytes.1);
    } in
    let rest : bytes_at (with_changes three six) ps ≡ bytes_at three ps =
    misses_all six ps three (past_columns l n hl hn six
    (omega arith, (omega arith, (omega arith, (omega arith, (omega arith, (omega arith, tt))))))) in
    rw rest (trio_keeps columns_apart trio s sector l n hl hn)

-- a byte of a row and the two parity bytes of its diagonal are in that diagonal
diagonal_trio : {plane row column : ℕ} {x : Change} {t : Change × Change}
    → plane < 2 → row < 26 → column < 43 → x.place ≡ place_of plane (43 * row + column)
    → x.d < 256 → IsDiagonalPair plane row column x.d t
    → IsTrio diagonals plane (diagonal_at row column) column x t.0 t.1
diagonal_trio {plane} {row} {column} {x} {t} hp hr hc at low pair =
    let n = diagonal_at row column in
    let n_in : n < 26 = omega arith in
    let first_at = diagonal_place-first plane n ∙ sym pair.first_at in
    let second_at = diagonal_place-second plane n ∙ sym pair.second_at in
    record {
      byte = in_diagonal plane row column x.place hp hr hc at;
      first = record { plane = hp; word = n_in; index = omega arith; at = first_at };
      second = record { plane = hp; word = n_in; index = omega arith; at = second_at };
      balances = pair.balances;
      low = (low, pair.bytes.0, pair.bytes.1);
    }

-- in a different order, the nine changes are three times a byte and the pair of its diagonal
diagonals_keep : {byte : Change} {t : Eight} → AreCarried byte t → (s : List ℕ) → IsSector s
    → KeepsSums diagonals (with_changes s (byte ∷ listed t)) s
diagonals_keep {byte} {t} c s sector l n hl hn =
    let column = c.of_column in
    let own = diagonal_trio {x = byte} c.in_plane (omega arith) c.in_columns
    c.place_at c.in_bytes c.of_own in
    let first = diagonal_trio {row = 24} {x = t.column.0} c.in_plane (omega arith) c.in_columns
    (omega arith) column.bytes.0 c.of_first in
    let second = diagonal_trio {row = 25} {x = t.column.1} c.in_plane (omega arith) c.in_columns
    (omega arith) column.bytes.1 c.of_second in
    let one = with_changes s (byte ∷ t.own.0 ∷ t.own.1 ∷ []) in
    let two = with_changes one (t.column.0 ∷ t.first.0 ∷ t.first.1 ∷ []) in
    let sector_one = trio_sector own s sector in
    let sector_two = trio_sector first one sector_one in
    let p_past = changed-past t.column.0 (t.own.0 ∷ t.own.1 ∷ [])
    (t.first.0 ∷ t.first.1 ∷ t.column.1 ∷ t.second.0 ∷ t.second.1 ∷ []) (with_changes s (byte ∷ []))
    (omega arith, (omega arith, tt)) in
    let q_past = changed-past t.column.1 (t.own.0 ∷ t.own.1 ∷ t.first.0 ∷ t.first.1 ∷ [])
    (t.second.0 ∷ t.second.1 ∷ []) (with_changes s (byte ∷ t.column.0 ∷ []))
    (omega arith, (omega arith, (omega arith, (omega arith, tt)))) in
    rw (q_past ∙ p_past)
    (SameSums-trans (trio_keeps diagonals_apart second two sector_two l n hl hn)
    (SameSums-trans (trio_keeps diagonals_apart first one sector_one l n hl hn)
    (trio_keeps diagonals_apart own s sector l n hl hn)))

-- the nine changes together keep all syndromes
pub SameSyndromes-carried : {byte : Change} {t : Eight} → AreCarried byte t → (s : List ℕ)
    → AreBytes s → length s ≡ 2352 → SameSyndromes (with_changes s (byte ∷ listed t)) s
SameSyndromes-carried c s bytes size =
    let sector : IsSector s = record { bytes = bytes; size = size } in
    record { columns = columns_keep c s sector; diagonals = diagonals_keep c s sector }

-- the eight changes are at the parity places of the byte
pub parity_places-carried : {byte : Change} {t : Eight} → AreCarried byte t
    → places_of (listed t) ≡ parity_places byte.place
unfolding parity_places
parity_places-carried {byte} {t} c =
    let same_plane : c.plane ≡ byte.place % 2 = omega arith in
    let same_row : c.row ≡ (byte.place - 12) / 2 / 43 = omega arith in
    let same_column : c.column ≡ (byte.place - 12) / 2 % 43 = omega arith in
    cc

-- no two of the eight places are the same
pub IsDistinct-carried : {byte : Change} {t : Eight} → AreCarried byte t
    → IsDistinct nat_eq (places_of (listed t))
unfolding IsDistinct
IsDistinct-carried c = grind (arith, nat_tests)
