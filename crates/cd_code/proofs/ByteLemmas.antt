-- Lemmas about lists of bytes and their sums.
use Rattle.std.proofs.Common.{◌≡◌, ℕ, zero, suc, ◌+◌, ◌%◌, ◌<◌, ◌≤◌, inl, inr, List, [], ◌∷◌, ◌++◌, length, get_or, map, take, drop, replicate, bit_xor, refl, sym, ap₂, ◌∙◌, arith, lit<}
use Rattle.std.specs.Prelude.{slice_set}
use Rattle.std.specs.Int.{to_le_bytes, w32}
use Rattle.std.specs.Simd.Lanes.{zip2}
use Rattle.std.proofs.lemmas.Bool.{cases_lt}
use Rattle.std.proofs.lemmas.List.{get_or-drop, get_or_past}
use Rattle.std.proofs.lemmas.Nat.{xor_lt}
use Rattle.std.proofs.lemmas.Simd.{get_or-zip2, length-zip2}
use Rattle.cd_code.specs.Field.{AreBytes, IsSum}
use Rattle.cd_code.specs.Laws.{DifferAtMostInLast}

pub AreBytes-tail : (x : ℕ) (v : List ℕ) → AreBytes (x ∷ v) → AreBytes v
AreBytes-tail x v h = λ i. h (suc i)

pub AreBytes-cons : (x : ℕ) (v : List ℕ) → x < 256 → AreBytes v → AreBytes (x ∷ v)
AreBytes-cons x v h k zero = h
AreBytes-cons x v h k (suc i) = k i

pub AreBytes-map : (f : ℕ → ℕ) (v : List ℕ) → ((i : ℕ) → f i < 256) → AreBytes (map f v)
AreBytes-map f [] h = λ i. lit< tt
AreBytes-map f (x ∷ v) h = AreBytes-cons (f x) (map f v) (h x) (AreBytes-map f v h)

pub AreBytes-append : (v w : List ℕ) → AreBytes v → AreBytes w → AreBytes (v ++ w)
AreBytes-append [] w hv hw = hw
AreBytes-append (x ∷ v) w hv hw = λ i.
    AreBytes-cons x (v ++ w) (hv 0) (AreBytes-append v w (λ k. hv (suc k)) hw) i

pub AreBytes-take : (s : List ℕ) (n : ℕ) → AreBytes s → AreBytes (take n s)
AreBytes-take s zero h = λ i. lit< tt
AreBytes-take [] (suc n) h = h
AreBytes-take (x ∷ s) (suc n) h =
    AreBytes-cons x (take n s) (h 0) (AreBytes-take s n (AreBytes-tail x s h))

pub AreBytes-drop : (s : List ℕ) (n : ℕ) → AreBytes s → AreBytes (drop n s)
AreBytes-drop s n h = λ i. rw (get_or-drop n s i 0) (h (n + i))

-- a byte that is written at a place
pub AreBytes-set : (s : List ℕ) (place b : ℕ) → AreBytes s → b < 256
    → AreBytes (slice_set s place b)
AreBytes-set [] place b bytes below = bytes
AreBytes-set (x ∷ s) zero b bytes below = AreBytes-cons b s below (AreBytes-tail x s bytes)
AreBytes-set (x ∷ s) (suc place) b bytes below =
    AreBytes-cons x (slice_set s place b) (bytes 0)
    (AreBytes-set s place b (AreBytes-tail x s bytes) below)

-- a list of bytes 00
pub AreBytes-replicate : (n : ℕ) → AreBytes (replicate n 0)
AreBytes-replicate zero = λ i. lit< tt
AreBytes-replicate (suc n) = AreBytes-cons 0 (replicate n 0) (lit< tt) (AreBytes-replicate n)

pub replicate-byte : (n i : ℕ) → get_or (replicate {A = ℕ} n 0) i 0 ≡ 0
replicate-byte zero i = refl
replicate-byte (suc n) zero = refl
replicate-byte (suc n) (suc i) = replicate-byte n i

-- the four bytes of a word
pub AreBytes-four : (a b c d : ℕ) → a < 256 → b < 256 → c < 256 → d < 256
    → AreBytes (a ∷ b ∷ c ∷ d ∷ [])
AreBytes-four a b c d ha hb hc hd =
    AreBytes-cons a (b ∷ c ∷ d ∷ []) ha (AreBytes-cons b (c ∷ d ∷ []) hb
    (AreBytes-cons c (d ∷ []) hc (AreBytes-cons d [] hd (λ i. lit< tt))))

pub AreBytes-word : (w : ℕ) → AreBytes (to_le_bytes w32 w)
AreBytes-word w =
    AreBytes-four (w % 256) _ _ _ (omega arith) (omega arith) (omega arith) (omega arith)

-- the tails of lists that differ at most in their last bytes
pub DifferAtMostInLast-tail : (n x y : ℕ) (v w : List ℕ) → DifferAtMostInLast n (x ∷ v) (y ∷ w)
    → DifferAtMostInLast n v w
DifferAtMostInLast-tail n x y v w d = record {
  bytes_left = λ i. d.bytes_left (suc i);
  bytes_right = λ i. d.bytes_right (suc i);
  same_length = (let e = d.same_length in omega arith);
  front = λ i h. d.front (suc i) (omega arith);
}

-- ---- sums

-- a sum of lists of at most n bytes, from their first n bytes
pub IsSum-below : (u s t : List ℕ) (n : ℕ) → length u ≤ n → length s ≤ n → length t ≤ n
    → ((i : ℕ) → i < n → get_or u i 0 ≡ bit_xor (get_or s i 0) (get_or t i 0)) → IsSum u s t
IsSum-below u s t n hu hs ht below = record {
  byte = λ i. elim (cases_lt i n) [
    | inl inside ↦ below i inside
    | inr past ↦
        get_or_past u i 0 (omega arith)
        ∙ sym (ap₂ bit_xor (get_or_past s i 0 (omega arith)) (get_or_past t i 0 (omega arith)))
  ];
}

pub IsSum-zip : (s t : List ℕ) → length s ≡ length t → IsSum (zip2 bit_xor s t) s t
IsSum-zip s t e =
    let long = length-zip2 bit_xor s t e in
    IsSum-below (zip2 bit_xor s t) s t (length s) (omega arith) (omega arith) (omega arith)
    (λ i h. get_or-zip2 bit_xor s t i 0 0 0 h (omega arith))

pub AreBytes-sum : {u s t : List ℕ} → IsSum u s t → AreBytes s → AreBytes t → AreBytes u
AreBytes-sum {u} {s} {t} h hs ht = λ i.
    rw (h.byte i) (xor_lt 8 (get_or s i 0) (get_or t i 0) (hs i) (ht i))
