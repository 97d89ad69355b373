-- All code words of a sector, by their number and by plane.
use Rattle.std.proofs.Common.{◌≡◌, ℕ, ◌+◌, ◌-◌, ◌*◌, ◌/◌, ◌%◌, ◌<◌, ◌≤◌, ◌⊎◌, inl, inr, List, [], ◌∷◌, ◌++◌, length, get_or, take, drop, bit_xor, refl, sym, ap, ◌∙◌, arith}
use Rattle.std.proofs.lemmas.Bool.{cases_lt}
use Rattle.std.proofs.lemmas.List.{ext_get_or, get_or-map, length-map, take_more, get_or-take}
use Rattle.std.specs.Simd.{first_chunks}
use Rattle.cd_code.proofs.general.Lists.{get_or-part, length-part}
use Rattle.cd_code.proofs.ColumnLemmas.{chunk_row}
use Rattle.std.proofs.lemmas.List.FromFn.{get_or-map-range_with_len}
use Rattle.cd_code.specs.Field.{AreBytes, double}
use Rattle.cd_code.specs.Syndrome.{IsPair, IsCodeWord, column, first_syndrome, second_syndrome}
use Rattle.cd_code.proofs.SyndromeLemmas.{first_syndrome-push, second_syndrome-push}
use Rattle.cd_code.specs.LaneWords.{AreColumns, AreSums, column_of_rows}
use Rattle.cd_code.specs.declared.columns.ColumnLanes.{ColumnLanes}
use Rattle.cd_code.specs.declared.lane_sums.LaneSums.{LaneSums}
use Rattle.cd_code.specs.CodeWords.{AllCodeWords, SumsOf, place_of, bytes_at, column_input, column_of, column_places, diagonal_input, diagonal_of, diagonal_places}
use Rattle.cd_code.proofs.PlaceLemmas.{length-bytes_at, bytes_at-byte, bytes_at-same, AreBytes-bytes_at, length-column_input, column_input_place, length-column_places, column_place, length-diagonal_input, diagonal_input_place, column_of-parts, diagonal_of-parts, plane-by_number}

-- all words by number are all words by plane
pub AllCodeWords-by_number : (s : List ℕ)
    → ((i : ℕ) → i < 86 → IsCodeWord (column_of s i))
    → ((i : ℕ) → i < 52 → IsCodeWord (diagonal_of s i)) → AllCodeWords s
AllCodeWords-by_number s columns diagonals = record {
  columns = plane-by_number (λ p n. IsCodeWord (bytes_at s (column_places p n))) 43 columns;
  diagonals = plane-by_number (λ p n. IsCodeWord (bytes_at s (diagonal_places p n))) 26 diagonals;
}

-- columns do not include Q parity, so they are still code words after it is written
pub AllCodeWords-filled : (mid new : List ℕ)
    → ((i : ℕ) → i < 86 → IsCodeWord (column_of mid i))
    → ((k : ℕ) → k < 2248 → get_or new k 0 ≡ get_or mid k 0)
    → ((i : ℕ) → i < 52 → IsCodeWord (diagonal_of new i)) → AllCodeWords new
AllCodeWords-filled mid new columns stays diagonals =
    AllCodeWords-by_number new
    (λ i h.
    let same : column_of new i ≡ column_of mid i =
    bytes_at-same new mid (column_places (i % 2) (i / 2)) (λ m inside.
    let long = length-column_places (i % 2) (i / 2) in
    let at = column_place (i % 2) (i / 2) m (omega arith) in
    stays (get_or (column_places (i % 2) (i / 2)) m 0) (omega arith)) in
    rw same (columns i h)) diagonals
