-- Sums of words side by side, a row of bytes at a time.
use Rattle.std.proofs.Common.{◌≡◌, ℕ, ◌+◌, ◌-◌, ◌*◌, ◌<◌, ◌≤◌, ◌⊎◌, inl, inr, List, [], ◌∷◌, ◌++◌, length, get_or, replicate, take, bit_xor, refl, sym, ap, ◌∙◌, arith, ap₂}
use Rattle.std.specs.Simd.{first_chunks}
use Rattle.std.proofs.lemmas.Bool.{cases_lt}
use Rattle.std.proofs.lemmas.List.{ext_get_or, get_or-map, length-map, map-append, take_more}
use Rattle.std.proofs.lemmas.List.FromFn.{get_or-map-range_with_len}
use Rattle.std.proofs.lemmas.Simd.{get_or-replicate}
use Rattle.cd_code.specs.Field.{AreBytes, double}
use Rattle.cd_code.specs.LaneWords.{AreSums, column_of_rows}
use Rattle.cd_code.specs.Syndrome.{column, first_syndrome, second_syndrome}
use Rattle.cd_code.specs.declared.lane_sums.LaneSums.{LaneSums}
use Rattle.cd_code.proofs.general.Lists.{get_or-first_chunks, get_or-part}
use Rattle.cd_code.proofs.SyndromeLemmas.{first_syndrome-nil, second_syndrome-nil, first_syndrome-push, second_syndrome-push}

-- the sums of empty words
pub AreSums-none : (sums : LaneSums) → sums.plain ≡ replicate 32 0 → sums.weighted ≡ replicate 32 0
    → AreSums (λ _. []) sums
AreSums-none sums e f = record {
  plain = λ i h. ap (λ v. get_or v i 0) e ∙ get_or-replicate 32 i 0 0 h ∙ sym first_syndrome-nil;
  weighted = λ i h.
      ap (λ v. get_or v i 0) f ∙ get_or-replicate 32 i 0 0 h ∙ sym second_syndrome-nil;
}

-- one more byte in each word: 32 bytes of a row, from place `at` on
pub AreSums-row : (word longer : ℕ → List ℕ) (at : ℕ) (row lanes : List ℕ) (sums next : LaneSums)
    → AreBytes row → at + 32 ≤ 86
    → ((i : ℕ) → i < 32 → get_or lanes i 0 ≡ get_or row (at + i) 0)
    → ((c : ℕ) → c < 86 → longer c ≡ word c ++ get_or row c 0 ∷ [])
    → AreSums (λ i. word (at + i)) sums
    → ((i : ℕ) → i < 32
    → get_or next.plain i 0 ≡ bit_xor (get_or sums.plain i 0) (get_or lanes i 0))
    → ((i : ℕ) → i < 32
    → get_or next.weighted i 0 ≡ bit_xor (double (get_or sums.weighted i 0)) (get_or lanes i 0))
    → AreSums (λ i. longer (at + i)) next
AreSums-row word longer at row lanes sums next bytes room is more are plain weighted = record {
  plain = λ i h.
      plain i h ∙ ap₂ bit_xor (are.plain i h) (is i h)
      ∙ sym (ap first_syndrome (more (at + i) (omega arith))
      ∙ first_syndrome-push (word (at + i)) (get_or row (at + i) 0));
  weighted = λ i h.
      weighted i h ∙ ap₂ (λ w b. bit_xor (double w) b) (are.weighted i h) (is i h)
      ∙ sym (ap second_syndrome (more (at + i) (omega arith))
      ∙ second_syndrome-push (word (at + i)) (get_or row (at + i) 0) (bytes (at + i)));
}

-- the columns with one more row
pub column_of_rows-more : (rows : List (List ℕ)) (d : List ℕ) (k c : ℕ) → k < length rows
    → column_of_rows (take (k + 1) rows) c
    ≡ column_of_rows (take k rows) c ++ get_or (get_or rows k d) c 0 ∷ []
column_of_rows-more rows d k c h =
    ap (λ v. column_of_rows v c) (take_more rows k d h)
    ∙ map-append (λ row. get_or row c 0) (take k rows) (get_or rows k d ∷ [])

-- a value in lists that are written in three parts, of which the last two overlap
pub put_thrice : (zero one two three front middle back : List ℕ)
    → ((i : ℕ) → i < 32 → get_or one (0 + i) 0 ≡ get_or front i 0)
    → ((i : ℕ) → i < 32 → get_or two (32 + i) 0 ≡ get_or middle i 0)
    → ((k : ℕ) → (k < 32) ⊎ (32 + 32 ≤ k) → get_or two k 0 ≡ get_or one k 0)
    → ((i : ℕ) → i < 32 → get_or three (54 + i) 0 ≡ get_or back i 0)
    → ((k : ℕ) → (k < 54) ⊎ (54 + 32 ≤ k) → get_or three k 0 ≡ get_or two k 0)
    → (value : ℕ → ℕ) → ((i : ℕ) → i < 32 → get_or front i 0 ≡ value i)
    → ((i : ℕ) → i < 32 → get_or middle i 0 ≡ value (32 + i))
    → ((i : ℕ) → i < 32 → get_or back i 0 ≡ value (54 + i)) → (c : ℕ) → c < 86
    → get_or three c 0 ≡ value c
put_thrice zero one two three front middle back p q q' r r' value a b e c h = elim (cases_lt c 54) [
  | inl lower ↦ r' c (inl lower) ∙ elim (cases_lt c 32) [
    | inl first ↦
        let place : 0 + c ≡ c = omega arith in
        q' c (inl first) ∙ ap (λ k. get_or one k 0) (sym place) ∙ p c first ∙ a c first
    | inr second ↦
        let place : 32 + (c - 32) ≡ c = omega arith in
        ap (λ k. get_or two k 0) (sym place) ∙ q (c - 32) (omega arith) ∙ b (c - 32) (omega arith)
        ∙ ap value place
  ]
  | inr upper ↦
      let place : 54 + (c - 54) ≡ c = omega arith in
      ap (λ k. get_or three k 0) (sym place) ∙ r (c - 54) (omega arith) ∙ e (c - 54) (omega arith)
      ∙ ap value place
]

-- byte k of row m of a list in chunks of 86 bytes
pub chunk_row : (flat : List ℕ) (chunks : List (List ℕ)) (n m k : ℕ) (d : List ℕ)
    → chunks ≡ first_chunks 86 n flat → m < n → k < 86
    → get_or (get_or chunks m d) k 0 ≡ get_or flat (86 * m + k) 0
chunk_row flat chunks n m k d front below h =
    let place : m * 86 + k ≡ 86 * m + k = omega arith in
    ap (λ z. get_or (get_or z m d) k 0) front
    ∙ ap (λ z. get_or z k 0) (get_or-first_chunks 86 n flat d m below)
    ∙ get_or-part flat (m * 86) 86 k h ∙ ap (λ i. get_or flat i 0) place

-- a column of the 26 chunks of 86 bytes
pub column_of_chunks : (flat : List ℕ) (chunks : List (List ℕ)) (n c : ℕ)
    → chunks ≡ first_chunks 86 n flat → n ≡ 26 → length chunks ≡ n → c < 86
    → column_of_rows chunks c ≡ column flat c
column_of_chunks flat chunks n c front number long h =
    let size : length (column_of_rows chunks c) ≡ 26 =
    length-map chunks (λ row. get_or row c 0) ∙ long ∙ number in
    let other : length (column flat c) ≡ 26 = refl in
    ext_get_or 0 (column_of_rows chunks c) (column flat c) (size ∙ sym other)
    (λ m inside.
    let below : m < 26 = omega (arith, size) in
    get_or-map (λ row. get_or row c 0) chunks m [] 0 (omega arith)
    ∙ chunk_row flat chunks n m c [] front (omega arith) h
    ∙ sym (get_or-map-range_with_len (λ k. get_or flat (86 * k + c) 0) 0 26 m m 0 below
    (omega arith)))
