-- Plumbing of `fill_columns` and `fill_diagonals`: parity that is written some pairs at a time
-- (ECMA-130, Annex A).
use Rattle.std.specs.Prelude.{◌≡◌, ℕ, ◌+◌, ◌*◌, ◌<◌, ◌≤◌, ◌⊎◌, List, slice_index}
use Rattle.cd_code.specs.Syndrome.{IsPair, first_syndrome, second_syndrome}

-- `new` has the parity of `width` words with these syndromes, the first bytes from `at` on and the
-- second bytes `count` places after them; all other bytes are those of `old`
pub record PairsPut (width at count : ℕ) (plain weighted : ℕ → ℕ) (old new : List ℕ) : Type 0 where
  pub pairs : (i : ℕ) → i < width
      → IsPair (plain i) (weighted i) (slice_index new (at + i)) (slice_index new (at + count + i))
  pub before : (k : ℕ) → k < at → slice_index new k ≡ slice_index old k
  pub between : (k : ℕ) → at + width ≤ k → k < at + count → slice_index new k ≡ slice_index old k
  pub after : (k : ℕ) → at + count + width ≤ k → slice_index new k ≡ slice_index old k

-- `new` has the parity of words 0 to n - 1 of `count` in its place; all bytes outside the parity of
-- the `count` words are those of `old`
pub record Filled (word : ℕ → List ℕ) (start count n : ℕ) (old new : List ℕ) : Type 0 where
  pub pairs : (i : ℕ) → i < n
      → IsPair (first_syndrome (word i)) (second_syndrome (word i)) (slice_index new (start + i))
      (slice_index new (start + count + i))
  pub stays : (k : ℕ) → (k < start) ⊎ (start + 2 * count ≤ k)
      → slice_index new k ≡ slice_index old k
