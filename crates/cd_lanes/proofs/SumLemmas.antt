-- Sums of words of bytes, a row of bytes at a time.
use Rattle.std.proofs.Common.{◌≡◌, ℕ, ◌+◌, ◌-◌, ◌*◌, ◌/◌, ◌%◌, ◌<◌, ◌≤◌, ◌⊎◌, inl, inr, List, [], ◌∷◌, ◌++◌, length, get_or, take, drop, bit_xor, refl, sym, ap, ◌∙◌, arith}
use Rattle.std.proofs.lemmas.Bool.{cases_lt}
use Rattle.std.proofs.lemmas.List.{ext_get_or, get_or-map, length-map, take_more, get_or-take}
use Rattle.std.specs.Simd.{first_chunks}
use Rattle.cd_code.proofs.general.Lists.{get_or-part, length-part}
use Rattle.cd_code.proofs.ColumnLemmas.{chunk_row}
use Rattle.std.proofs.lemmas.List.FromFn.{get_or-map-range_with_len}
use Rattle.cd_code.specs.Field.{AreBytes, double}
use Rattle.cd_code.specs.Syndrome.{IsPair, IsCodeWord, column, first_syndrome, second_syndrome}
use Rattle.cd_code.proofs.SyndromeLemmas.{first_syndrome-push, second_syndrome-push}
use Rattle.cd_code.specs.LaneWords.{AreColumns, AreSums, column_of_rows}
use Rattle.cd_code.specs.declared.columns.ColumnLanes.{ColumnLanes}
use Rattle.cd_code.specs.declared.lane_sums.LaneSums.{LaneSums}
use Rattle.cd_code.specs.CodeWords.{SumsOf, place_of, bytes_at, column_input, column_of, column_places, diagonal_input, diagonal_of, diagonal_places}
use Rattle.cd_code.proofs.PlaceLemmas.{length-bytes_at, bytes_at-byte, bytes_at-same, AreBytes-bytes_at, length-column_input, column_input_place, length-column_places, column_place, length-diagonal_input, diagonal_input_place, column_of-parts, diagonal_of-parts, plane-by_number}

-- ---- sums

-- one more byte in each word
pub SumsOf-more : (word longer : ℕ → List ℕ) (count : ℕ)
    (plain weighted row next next_weighted : List ℕ)
    → SumsOf word count plain weighted → ((i : ℕ) → i < count → get_or row i 0 < 256)
    → ((i : ℕ) → i < count → longer i ≡ word i ++ get_or row i 0 ∷ [])
    → ((i : ℕ) → i < count → get_or next i 0 ≡ bit_xor (get_or plain i 0) (get_or row i 0))
    → ((i : ℕ) → i < count
    → get_or next_weighted i 0 ≡ bit_xor (double (get_or weighted i 0)) (get_or row i 0))
    → SumsOf longer count next next_weighted
SumsOf-more word longer count plain weighted row next next_weighted sums bytes more firsts seconds =
    record {
      first = λ i h.
          firsts i h ∙ ap (λ z. bit_xor z (get_or row i 0)) (sums.first i h)
          ∙ sym (ap first_syndrome (more i h) ∙ first_syndrome-push (word i) (get_or row i 0));
      second = λ i h.
          seconds i h ∙ ap (λ z. bit_xor (double z) (get_or row i 0)) (sums.second i h)
          ∙ sym (ap second_syndrome (more i h)
          ∙ second_syndrome-push (word i) (get_or row i 0) (bytes i h));
    }

-- a list of the bytes of one column, row by row
bytes_at-rows : (s v ps : List ℕ) (n c : ℕ) → length v ≡ n → length ps ≡ n
    → ((m : ℕ) → m < n → get_or ps m 0 ≡ place_of (c % 2) (43 * m + c / 2))
    → ((m : ℕ) → m < n → get_or v m 0 ≡ get_or s (12 + (86 * m + c)) 0) → v ≡ bytes_at s ps
bytes_at-rows s v ps n c long size place byte =
    ext_get_or 0 v (bytes_at s ps) (long ∙ sym (length-bytes_at s ps ∙ size))
    (λ m inside.
    let below : m < n = omega arith in
    let p : place_of (c % 2) (43 * m + c / 2) ≡ 12 + (86 * m + c) = omega arith in
    byte m below
    ∙ sym (bytes_at-byte s ps m (omega arith) ∙ ap (λ k. get_or s k 0) (place m below ∙ p)))

-- a column of the 26 rows from byte 12 on
pub column-rows : (s rows : List ℕ) (i : ℕ) → i < 86
    → ((k : ℕ) → k < 2236 → get_or rows k 0 ≡ get_or s (12 + k) 0)
    → column rows i ≡ column_of s i
column-rows s rows i h same =
    bytes_at-rows s (column rows i) (column_places (i % 2) (i / 2)) 26 i refl
    (length-column_places (i % 2) (i / 2)) (column_place (i % 2) (i / 2))
    (λ m below. get_or-map-range_with_len (λ k. get_or rows (86 * k + i) 0) 0 26 m m 0 below
    (omega arith) ∙ same (86 * m + i) (omega arith))

-- row i of the 24 rows from byte 12 on
pub row_of_columns : (s : List ℕ) (chunks : List (List ℕ)) (n i k : ℕ) (d : List ℕ)
    → chunks ≡ first_chunks 86 n (take 2064 (drop 12 s)) → i < n → n ≤ 24 → k < 86
    → get_or (get_or chunks i d) k 0 ≡ get_or s (12 + (86 * i + k)) 0
row_of_columns s chunks n i k d front below few h =
    chunk_row (take 2064 (drop 12 s)) chunks n i k d front below h
    ∙ get_or-part s 12 2064 (86 * i + k) (omega arith)

-- a column of these rows is the input of a P column
pub column_of_input : (s : List ℕ) (chunks : List (List ℕ)) (n c : ℕ)
    → chunks ≡ first_chunks 86 n (take 2064 (drop 12 s)) → n ≡ 24 → length chunks ≡ n → c < 86
    → column_of_rows chunks c ≡ bytes_at s (column_input (c % 2) (c / 2))
column_of_input s chunks n c front number long h =
    bytes_at-rows s (column_of_rows chunks c) (column_input (c % 2) (c / 2)) 24 c
    (length-map chunks (λ row. get_or row c 0) ∙ long ∙ number)
    (length-column_input (c % 2) (c / 2)) (column_input_place (c % 2) (c / 2))
    (λ m below.
    get_or-map (λ row. get_or row c 0) chunks m [] 0 (omega arith)
    ∙ row_of_columns s chunks n m c [] front (omega arith) (omega arith) h)

AreSums-same : (word other : ℕ → List ℕ) (sums : LaneSums)
    → ((i : ℕ) → i < 32 → word i ≡ other i) → AreSums word sums → AreSums other sums
AreSums-same word other sums same are = record {
  plain = λ i h. are.plain i h ∙ ap first_syndrome (same i h);
  weighted = λ i h. are.weighted i h ∙ ap second_syndrome (same i h);
}

pub AreColumns-same : (word other : ℕ → List ℕ) (lanes : ColumnLanes)
    → ((c : ℕ) → c < 86 → word c ≡ other c) → AreColumns word lanes → AreColumns other lanes
AreColumns-same word other lanes same are = record {
  front = AreSums-same word other lanes.front (λ i h. same i (omega arith)) are.front;
  middle = AreSums-same (λ i. word (32 + i)) (λ i. other (32 + i)) lanes.middle
      (λ i h. same (32 + i) (omega arith)) are.middle;
  back = AreSums-same (λ i. word (54 + i)) (λ i. other (54 + i)) lanes.back
      (λ i h. same (54 + i) (omega arith)) are.back;
}

pub rows_of_columns : (s : List ℕ) → length s ≡ 2352 → length (take 2064 (drop 12 s)) / 86 ≡ 24
rows_of_columns s long = ap (λ n. n / 86) (length-part s 12 2064 (omega arith))

-- the sums of the columns, from the 26 rows from byte 12 on
pub SumsOf-columns : (s rows plain weighted : List ℕ) → rows ≡ take 2236 (take 2236 (drop 12 s))
    → ((i : ℕ) → i < 86 → get_or plain i 0 ≡ first_syndrome (column rows i))
    → ((i : ℕ) → i < 86 → get_or weighted i 0 ≡ second_syndrome (column rows i))
    → SumsOf (column_of s) 86 plain weighted
SumsOf-columns s rows plain weighted e firsts seconds =
    let same : (k : ℕ) → k < 2236 → get_or rows k 0 ≡ get_or s (12 + k) 0 =
    (λ k h.
    ap (λ v. get_or v k 0) e ∙ get_or-take 2236 (take 2236 (drop 12 s)) k 0 h
    ∙ get_or-part s 12 2236 k h) in
    record {
      first = λ i h. firsts i h ∙ ap first_syndrome (column-rows s rows i h same);
      second = λ i h. seconds i h ∙ ap second_syndrome (column-rows s rows i h same);
    }

-- the sums of 32 words in registers
pub SumsOf-lanes : {word : ℕ → List ℕ} {sums : LaneSums} → AreSums word sums
    → SumsOf word 32 sums.plain sums.weighted
SumsOf-lanes are = record { first = are.plain; second = are.weighted }
