-- Eight bytes in a word, the bits of a line feed among them, and skipping a text by eight bytes at
-- a time.
use Rattle.std.proofs.Common.{◌≡◌, ℕ, zero, suc, ◌+◌, ◌-◌, ◌*◌, ◌/◌, ◌^◌, ◌<◌, ◌≤◌, List, length, length-drop, take, drop, slice_index, bit_and, inl, inr, sym, ap, ◌∙◌, arith}
use Rattle.std.specs.Int.{bit_at, from_le_bytes, w64}
use Rattle.std.specs.Int.RustNames.{bit_or}
use Rattle.std.proofs.lemmas.Bool.{cases_lt, eqb-true}
use Rattle.std.proofs.lemmas.List.{drop-drop, get_or-drop, get_or-take}
use Rattle.std.proofs.lemmas.Nat.Bits.{bit_at-suc, bit_at_and, bit_at_cat_high, bit_at_cat_low, bit_at_or}
use Rattle.memchr.specs.Find.{Nowhere, Passes}
use Rattle.cd_script.proofs.general.Lines.{is_feed}

-- a bit of a line feed that begins k bits from the low end of a word
feed_bit : (low high x k i : ℕ) → low < 2 ^ k → x ≡ (high * 2 ^ 8 + 10) * 2 ^ k + low → i < 8
    → bit_at x (k + i) ≡ bit_at 10 i
feed_bit low high x k i small is lt =
    let place : k + i - k ≡ i = omega arith in
    ap (λ n. bit_at n (k + i)) is
    ∙ bit_at_cat_high (high * 2 ^ 8 + 10) k low (k + i) small (omega arith)
    ∙ ap (bit_at (high * 2 ^ 8 + 10)) place ∙ bit_at_cat_low high 8 10 i lt

-- neither the bit 32 nor the bit 64 of a line feed is set
feed_seen : (low high x k mask : ℕ) → low < 2 ^ k → x ≡ (high * 2 ^ 8 + 10) * 2 ^ k + low
    → bit_at mask (k + 5) ≡ 1 → bit_and (bit_or x (x / 2)) mask ≡ mask → ⊥
feed_seen low high x k mask small is on masked =
    let first : bit_at x (k + 5) ≡ 0 = feed_bit low high x k 5 small is (omega arith) in
    let second : bit_at x (k + 6) ≡ 0 = feed_bit low high x k 6 small is (omega arith) in
    let shifted : bit_at (x / 2) (k + 5) ≡ 0 =
    sym (bit_at-suc x (k + 5)) ∙ ap (bit_at x) (omega arith) ∙ second in
    let bits = sym (bit_at_and (bit_or x (x / 2)) mask (k + 5)) ∙ ap (λ n. bit_at n (k + 5)) masked ∙ on in
    let either = bit_at_or x (x / 2) (k + 5) in
    omega arith

-- none of eight bytes is a line feed if each has one of these bits
pub eight-no_feed : (b : List ℕ) (x mask : ℕ) → ((i : ℕ) → slice_index b i < 256)
    → x ≡ from_le_bytes w64 b → mask ≡ 2314885530818453536
    → bit_and (bit_or x (x / 2)) mask ≡ mask → (k : ℕ) → k < 8 → slice_index b k ≡ 10 → ⊥
eight-no_feed b x mask bytes is bits masked zero lt feed =
    feed_seen 0 (slice_index b 1 + slice_index b 2 * 256 + slice_index b 3 * 65536 + slice_index b 4 * 16777216 + slice_index b 5 * 4294967296 + slice_index b 6 * 1099511627776 + slice_index b 7 * 281474976710656) x 0 mask
    (omega (arith, bytes 0, bytes 1, bytes 2, bytes 3, bytes 4, bytes 5, bytes 6, bytes 7))
    (omega arith) (ap (λ m. bit_at m 5) bits) masked
eight-no_feed b x mask bytes is bits masked (suc zero) lt feed =
    feed_seen (slice_index b 0) (slice_index b 2 + slice_index b 3 * 256 + slice_index b 4 * 65536 + slice_index b 5 * 16777216 + slice_index b 6 * 4294967296 + slice_index b 7 * 1099511627776) x 8 mask
    (omega (arith, bytes 0, bytes 1, bytes 2, bytes 3, bytes 4, bytes 5, bytes 6, bytes 7))
    (omega arith) (ap (λ m. bit_at m 13) bits) masked
eight-no_feed b x mask bytes is bits masked (suc (suc zero)) lt feed =
    feed_seen (slice_index b 0 + slice_index b 1 * 256) (slice_index b 3 + slice_index b 4 * 256 + slice_index b 5 * 65536 + slice_index b 6 * 16777216 + slice_index b 7 * 4294967296) x 16 mask
    (omega (arith, bytes 0, bytes 1, bytes 2, bytes 3, bytes 4, bytes 5, bytes 6, bytes 7))
    (omega arith) (ap (λ m. bit_at m 21) bits) masked
eight-no_feed b x mask bytes is bits masked (suc (suc (suc zero))) lt feed =
    feed_seen (slice_index b 0 + slice_index b 1 * 256 + slice_index b 2 * 65536) (slice_index b 4 + slice_index b 5 * 256 + slice_index b 6 * 65536 + slice_index b 7 * 16777216) x 24 mask
    (omega (arith, bytes 0, bytes 1, bytes 2, bytes 3, bytes 4, bytes 5, bytes 6, bytes 7))
    (omega arith) (ap (λ m. bit_at m 29) bits) masked
eight-no_feed b x mask bytes is bits masked (suc (suc (suc (suc zero)))) lt feed =
    feed_seen (slice_index b 0 + slice_index b 1 * 256 + slice_index b 2 * 65536 + slice_index b 3 * 16777216) (slice_index b 5 + slice_index b 6 * 256 + slice_index b 7 * 65536) x 32 mask
    (omega (arith, bytes 0, bytes 1, bytes 2, bytes 3, bytes 4, bytes 5, bytes 6, bytes 7))
    (omega arith) (ap (λ m. bit_at m 37) bits) masked
eight-no_feed b x mask bytes is bits masked (suc (suc (suc (suc (suc zero))))) lt feed =
    feed_seen (slice_index b 0 + slice_index b 1 * 256 + slice_index b 2 * 65536 + slice_index b 3 * 16777216 + slice_index b 4 * 4294967296) (slice_index b 6 + slice_index b 7 * 256) x 40 mask
    (omega (arith, bytes 0, bytes 1, bytes 2, bytes 3, bytes 4, bytes 5, bytes 6, bytes 7))
    (omega arith) (ap (λ m. bit_at m 45) bits) masked
eight-no_feed b x mask bytes is bits masked (suc (suc (suc (suc (suc (suc zero)))))) lt feed =
    feed_seen (slice_index b 0 + slice_index b 1 * 256 + slice_index b 2 * 65536 + slice_index b 3 * 16777216 + slice_index b 4 * 4294967296 + slice_index b 5 * 1099511627776) (slice_index b 7) x 48 mask
    (omega (arith, bytes 0, bytes 1, bytes 2, bytes 3, bytes 4, bytes 5, bytes 6, bytes 7))
    (omega arith) (ap (λ m. bit_at m 53) bits) masked
eight-no_feed b x mask bytes is bits masked (suc (suc (suc (suc (suc (suc (suc zero))))))) lt feed =
    feed_seen (slice_index b 0 + slice_index b 1 * 256 + slice_index b 2 * 65536 + slice_index b 3 * 16777216 + slice_index b 4 * 4294967296 + slice_index b 5 * 1099511627776 + slice_index b 6 * 281474976710656) (0) x 56 mask
    (omega (arith, bytes 0, bytes 1, bytes 2, bytes 3, bytes 4, bytes 5, bytes 6, bytes 7))
    (omega arith) (ap (λ m. bit_at m 61) bits) masked
eight-no_feed b x mask bytes is bits masked (suc (suc (suc (suc (suc (suc (suc (suc n)))))))) lt feed = absurd (omega arith)

-- eight more bytes of a text are skipped
pub eights-more : (text eight after rest : List ℕ) (n : ℕ) → rest ≡ drop n text → n ≤ length text
    → Nowhere (Passes is_feed text) 0 n → eight ≡ take 8 rest → after ≡ drop 8 rest
    → 8 ≤ length rest → ((k : ℕ) → k < 8 → slice_index eight k ≡ 10 → ⊥)
    → (after ≡ drop (n + 8) text) × (n + 8 ≤ length text) × Nowhere (Passes is_feed text) 0 (n + 8)
eights-more text eight after rest n is_rest within none front back size seen =
    let left : length rest ≡ length text - n =
    ap (λ (l : List ℕ). length l) is_rest ∙ length-drop n text in
    let read : (j : ℕ) → j < 8 → slice_index eight j ≡ slice_index text (n + j) = λ j lt.
    ap (λ (l : List ℕ). slice_index l j) front ∙ get_or-take 8 rest j 0 lt
    ∙ ap (λ (l : List ℕ). slice_index l j) is_rest ∙ get_or-drop n text j 0 in (
      back ∙ ap (drop 8) is_rest ∙ drop-drop 8 n text,
      omega arith,
      λ k low high feed. elim (cases_lt k n) [
        | inl before ↦ none k low before feed
        | inr later ↦
            let place : n + (k - n) ≡ k = omega arith in
            seen (k - n) (omega arith)
            (read (k - n) (omega arith) ∙ ap (slice_index text) place ∙ eqb-true _ _ feed)
      ],
    )
