-- The division of the EDC is linear, so the EDC word of a sum is the sum of the EDC words.
use Rattle.std.proofs.Common.{◌≡◌, ℕ, zero, suc, ◌+◌, ◌-◌, ◌*◌, ◌/◌, ◌%◌, ◌^◌, ◌<◌, ◌≤◌, inl, inr, List, [], ◌∷◌, ◌++◌, length, get_or, replicate, fold, bit_xor, refl, sym, ap, ap₂, ◌∙◌, arith, lit<, lit≤, pow-add, append_assoc}
use Rattle.std.specs.Int.Bits.{xor_self, xor_zero_l, xor_zero_r}
use Rattle.std.specs.Int.{from_le_bytes, to_le_bytes, w32}
use Rattle.std.proofs.Math.Nat.{pow-le-pow_right, pow-suc}
use Rattle.std.proofs.lemmas.Nat.{xor_lt, xor_shr, xor_block, shr-shr, mod-pow-add, pow_pos}
use Rattle.std.proofs.lemmas.Bool.{cases_lt}
use Rattle.std.proofs.lemmas.List.Sums.{fold-append}
use Rattle.std.proofs.lemmas.Bool.Decides.{nat_tests}
use Rattle.cd_code.specs.Edc.{IsEdc, low_bits, bits, generator, divide_step, remainder}
use Rattle.cd_code.specs.Field.{AreBytes, IsSum}
use Rattle.cd_code.specs.Laws.{DifferAtMostInLast}
use Rattle.cd_code.proofs.ByteLemmas.{AreBytes-four, AreBytes-tail, AreBytes-word, DifferAtMostInLast-tail}
use Rattle.cd_code.proofs.general.Lists.{list_of_eight}
use Rattle.cd_code.proofs.general.Xor.{half_below, linear_at_bits, xor_half, xor_low, xor_twice_left, xor_swap, same_from_xor}

-- ---- one step

-- the number that is added if a bit is carried out at the top
abbrev carry : ℕ → ℕ
carry zero = 0
carry (suc n) = generator

step-low : (r b : ℕ) → r * 2 + b < 2 ^ 32 → divide_step r b ≡ r * 2 + b
unfolding divide_step
step-low r b h = grind (arith, nat_tests)

step-high : (r b : ℕ) → 2 ^ 32 ≤ r * 2 + b → divide_step r b ≡ bit_xor (r * 2 + b) generator
unfolding divide_step
step-high r b h = grind (arith, nat_tests)

step-carry : (r b : ℕ) → r < 2 ^ 32 → b < 2
    → divide_step r b ≡ bit_xor (r * 2 + b) (carry (r / 2 ^ 31))
step-carry r b hr hb = elim (cases_lt (r * 2 + b) (2 ^ 32)) [
  | inl h ↦
      let e : r / 2 ^ 31 ≡ 0 = omega arith in
      step-low r b h ∙ sym (ap (λ z. bit_xor (r * 2 + b) (carry z)) e ∙ xor_zero_r (r * 2 + b))
  | inr h ↦
      let e : r / 2 ^ 31 ≡ 1 = omega arith in
      step-high r b h ∙ sym (ap (λ z. bit_xor (r * 2 + b) (carry z)) e)
]

pub step-lt : (r b : ℕ) → r < 2 ^ 32 → b < 2 → divide_step r b < 2 ^ 32
step-lt r b hr hb = elim (cases_lt (r * 2 + b) (2 ^ 32)) [
  | inl h ↦ rw (step-low r b h) h
  | inr h ↦
      let low = r * 2 + b - 2 ^ 32 in
      let low_lt : low < 2 ^ 32 = omega arith in
      let split : r * 2 + b ≡ 1 * 2 ^ 32 + low = omega arith in
      let blocks : bit_xor (1 * 2 ^ 32 + low) (1 * 2 ^ 32 + 0x8001801B)
      ≡ bit_xor 1 1 * 2 ^ 32 + bit_xor low 0x8001801B =
      xor_block 32 1 1 low 0x8001801B low_lt (lit< tt) in
      let small : bit_xor low 0x8001801B < 2 ^ 32 = xor_lt 32 low 0x8001801B low_lt (lit< tt) in
      let e : divide_step r b ≡ bit_xor low 0x8001801B =
      step-high r b h ∙ ap (λ z. bit_xor z generator) split ∙ blocks
      ∙ (let z : bit_xor 1 1 * 2 ^ 32 + bit_xor low 0x8001801B
      ≡ bit_xor low 0x8001801B = omega arith in z) in
      rw e small
]

pub step-xor : (r s b c : ℕ) → r < 2 ^ 32 → s < 2 ^ 32 → b < 2 → c < 2
    → divide_step (bit_xor r s) (bit_xor b c) ≡ bit_xor (divide_step r b) (divide_step s c)
step-xor r s b c hr hs hb hc =
    step-carry (bit_xor r s) (bit_xor b c) (xor_lt 32 r s hr hs) (xor_lt 1 b c hb hc)
    ∙ ap₂ bit_xor (sym (xor_block 1 r s b c hb hc)) (ap carry (xor_shr r s 31)
    ∙ linear_at_bits carry refl (r / 2 ^ 31) (s / 2 ^ 31) (omega arith) (omega arith))
    ∙ xor_swap (r * 2 + b) (s * 2 + c) (carry (r / 2 ^ 31)) (carry (s / 2 ^ 31))
    ∙ sym (ap₂ bit_xor (step-carry r b hr hb) (step-carry s c hs hc))

-- ---- n bits of a number

-- the remainder when the n low bits of x follow the remainder r
abbrev pub after_bits : ℕ → ℕ → ℕ → ℕ
after_bits zero r x = r
after_bits (suc n) r x = after_bits n (divide_step r (x % 2)) (x / 2)

after_bits-fold : (n r x : ℕ) → fold divide_step r (low_bits n x) ≡ after_bits n r x
after_bits-fold zero r x = refl
after_bits-fold (suc n) r x = after_bits-fold n (divide_step r (x % 2)) (x / 2)

pub after_bits-lt : (n r x : ℕ) → r < 2 ^ 32 → after_bits n r x < 2 ^ 32
after_bits-lt zero r x h = h
after_bits-lt (suc n) r x h =
    after_bits-lt n (divide_step r (x % 2)) (x / 2) (step-lt r (x % 2) h (omega arith))

pub after_bits-xor : (n r s x y : ℕ) → r < 2 ^ 32 → s < 2 ^ 32
    → after_bits n (bit_xor r s) (bit_xor x y) ≡ bit_xor (after_bits n r x) (after_bits n s y)
after_bits-xor zero r s x y hr hs = refl
after_bits-xor (suc n) r s x y hr hs =
    ap₂ (after_bits n)
    (ap (divide_step (bit_xor r s)) (xor_low x y)
    ∙ step-xor r s (x % 2) (y % 2) hr hs (omega arith) (omega arith))
    (xor_half x y)
    ∙ after_bits-xor n (divide_step r (x % 2)) (divide_step s (y % 2)) (x / 2) (y / 2)
    (step-lt r (x % 2) hr (omega arith)) (step-lt s (y % 2) hs (omega arith))

halves : (x m : ℕ) → x / 2 / 2 ^ m ≡ x / 2 ^ suc m
halves x m = shr-shr x 1 m ∙ (let e : 1 + m ≡ suc m = omega arith in ap (λ k. x / 2 ^ k) e)

pub after_bits-more : (m n r x : ℕ)
    → after_bits (m + n) r x ≡ after_bits n (after_bits m r x) (x / 2 ^ m)
after_bits-more zero n r x =
    let e : zero + n ≡ n = omega arith in
    let h : x ≡ x / 2 ^ 0 = omega arith in
    ap (λ k. after_bits k r x) e ∙ ap (after_bits n r) h
after_bits-more (suc m) n r x =
    let e : suc m + n ≡ suc (m + n) = omega arith in
    ap (λ k. after_bits k r x) e
    ∙ after_bits-more m n (divide_step r (x % 2)) (x / 2)
    ∙ ap (after_bits n (after_bits m (divide_step r (x % 2)) (x / 2))) (halves x m)

-- only the n low bits matter
pub after_bits-mod : (n r x y : ℕ) → x % 2 ^ n ≡ y % 2 ^ n → after_bits n r x ≡ after_bits n r y
after_bits-mod zero r x y h = refl
after_bits-mod (suc n) r x y h =
    let parts = low_parts n x y h in
    ap (λ z. after_bits n (divide_step r z) (x / 2)) parts.0
    ∙ after_bits-mod n (divide_step r (y % 2)) (x / 2) (y / 2) parts.1
  where
    split : (n x : ℕ) → x % 2 ^ suc n ≡ (x / 2 % 2 ^ n) * 2 + x % 2
    split n x = (let e : suc n ≡ n + 1 = omega arith in ap (λ k. x % 2 ^ k) e) ∙ mod-pow-add x n 1

    low_parts : (n x y : ℕ) → x % 2 ^ suc n ≡ y % 2 ^ suc n
        → (x % 2 ≡ y % 2) × (x / 2 % 2 ^ n ≡ y / 2 % 2 ^ n)
    low_parts n x y h =
        let e = split n x in
        let f = split n y in
        (omega arith, omega arith)

step-zero : divide_step 0 0 ≡ 0
unfolding divide_step
step-zero = refl

pub after_bits-zero : (n : ℕ) → after_bits n 0 0 ≡ 0
after_bits-zero zero = refl
after_bits-zero (suc n) = ap (λ z. after_bits n z 0) step-zero ∙ after_bits-zero n

-- as long as nothing is carried out at the top, only 0 has the remainder 0
pub after_bits-none : (n k r x : ℕ) → k + n ≡ 32 → r < 2 ^ k → x < 2 ^ n → after_bits n r x ≡ 0
    → (r ≡ 0) × (x ≡ 0)
after_bits-none zero k r x e hr hx none = (none, omega arith)
after_bits-none (suc n) k r x e hr hx none =
    let top : 2 ^ suc k ≤ 2 ^ 32 =
    pow-le-pow_right {n = 2} (lit< tt) {i = suc k} {j = 32} (omega arith) in
    let twice : 2 ^ suc k ≡ 2 ^ k * 2 = pow-suc 2 k in
    let fits : r * 2 + x % 2 < 2 ^ suc k = omega arith in
    let low = step-low r (x % 2) (omega arith) in
    let rest =
    after_bits-none n (suc k) (r * 2 + x % 2) (x / 2) (omega arith) fits (half_below n x hx)
    (ap (λ z. after_bits n z (x / 2)) (sym low) ∙ none) in
    (omega (arith, rest.0), omega (arith, rest.0, rest.1))

pub after_bits-injective : (n r x y : ℕ) → n ≤ 32 → r < 2 ^ 32 → x < 2 ^ n → y < 2 ^ n
    → after_bits n r x ≡ after_bits n r y → x ≡ y
after_bits-injective n r x y hn hr hx hy same =
    let none : after_bits n 0 (bit_xor x y) ≡ 0 =
    ap (λ z. after_bits n z (bit_xor x y)) (sym (xor_self r))
    ∙ after_bits-xor n r r x y hr hr ∙ ap (λ z. bit_xor z (after_bits n r y)) same
    ∙ xor_self (after_bits n r y) in
    same_from_xor x y
    (after_bits-none n (32 - n) 0 (bit_xor x y) (omega arith) (pow_pos (32 - n))
    (xor_lt n x y hx hy) none).1

-- ---- bytes

-- the remainder when bytes follow the remainder r
abbrev pub after : ℕ → List ℕ → ℕ
after r [] = r
after r (x ∷ v) = after (after_bits 8 r x) v

after-fold : (r : ℕ) (v : List ℕ) → fold divide_step r (bits v) ≡ after r v
unfolding bits
after-fold r [] = refl
after-fold r (x ∷ v) =
    fold-append divide_step r (low_bits 8 x) (bits v)
    ∙ ap (λ z. fold divide_step z (bits v)) (after_bits-fold 8 r x)
    ∙ after-fold (after_bits 8 r x) v

pub remainder-after : (v : List ℕ) → remainder (bits v) ≡ after 0 v
unfolding remainder
remainder-after v = after-fold 0 v

pub after-append : (r : ℕ) (v w : List ℕ) → after r (v ++ w) ≡ after (after r v) w
after-append r [] w = refl
after-append r (x ∷ v) w = after-append (after_bits 8 r x) v w

pub after-lt : (r : ℕ) (v : List ℕ) → r < 2 ^ 32 → after r v < 2 ^ 32
after-lt r [] h = h
after-lt r (x ∷ v) h = after-lt (after_bits 8 r x) v (after_bits-lt 8 r x h)

-- bytes as one number, the first byte the least significant
abbrev pub number : List ℕ → ℕ
number [] = 0
number (x ∷ v) = x + number v * 256

pub number-lt : (v : List ℕ) → AreBytes v → number v < 2 ^ (8 * length v)
number-lt [] h = lit< tt
number-lt (x ∷ v) h =
    let more : 8 * suc (length v) ≡ 8 * length v + 8 = omega arith in
    let e : 2 ^ (8 * suc (length v)) ≡ 2 ^ (8 * length v) * 256 =
    ap (λ k. 2 ^ k) more ∙ pow-add 2 (8 * length v) 8 in
    let rest = number-lt v (λ i. h (suc i)) in
    let low : x < 256 = h 0 in
    rw e (omega arith)

pub after-number : (r : ℕ) (v : List ℕ) → AreBytes v
    → after r v ≡ after_bits (8 * length v) r (number v)
after-number r [] h = refl
after-number r (x ∷ v) h =
    let more : 8 + 8 * length v ≡ 8 * suc (length v) = omega arith in
    let n = x + number v * 256 in
    let low : x < 256 = h 0 in
    let first : x % 2 ^ 8 ≡ n % 2 ^ 8 = omega arith in
    let rest : number v ≡ n / 2 ^ 8 = omega arith in
    after-number (after_bits 8 r x) v (λ i. h (suc i))
    ∙ ap₂ (after_bits (8 * length v)) (after_bits-mod 8 r x n first) rest
    ∙ sym (after_bits-more 8 (8 * length v) r n)
    ∙ ap (λ k. after_bits k r n) more

pub number-injective : (v w : List ℕ) → AreBytes v → AreBytes w → length v ≡ length w
    → number v ≡ number w → v ≡ w
number-injective [] [] hv hw e same = refl
number-injective (x ∷ v) (y ∷ w) hv hw e same =
    let a : x < 256 = hv 0 in
    let b : y < 256 = hw 0 in
    let first : x ≡ y = omega arith in
    let rest =
    number-injective v w (AreBytes-tail x v hv) (AreBytes-tail y w hw) (omega arith)
    (omega arith) in
    ap₂ (λ z u. z ∷ u) first rest
number-injective _ _ hv hw e same = absurd (omega arith)

pub after-word : (r w : ℕ) → w < 2 ^ 32 → after r (to_le_bytes w32 w) ≡ after_bits 32 r w
after-word r w h =
    let whole : number (to_le_bytes w32 w) ≡ w = omega arith in
    after-number r (to_le_bytes w32 w) (AreBytes-word w) ∙ ap (after_bits 32 r) whole

-- ---- words

-- with the word after r, the remainder is 0
pub record Ends (r w : ℕ) : Type 0 where
  pub left : r < 2 ^ 32
  pub fits : w < 2 ^ 32
  pub ends : after_bits 32 r w ≡ 0

pub Ends-from : (v : List ℕ) (w : ℕ) → IsEdc v w → Ends (after 0 v) w
Ends-from v w h = record {
  left = after-lt 0 v (lit< tt);
  fits = h.fits;
  ends =
      sym (after-word (after 0 v) w h.fits) ∙ sym (after-append 0 v (to_le_bytes w32 w))
      ∙ sym (remainder-after (v ++ to_le_bytes w32 w)) ∙ h.divides;
}

pub IsEdc-from : (v : List ℕ) (w : ℕ) → Ends (after 0 v) w → IsEdc v w
IsEdc-from v w h = record {
  fits = h.fits;
  divides =
      remainder-after (v ++ to_le_bytes w32 w) ∙ after-append 0 v (to_le_bytes w32 w)
      ∙ after-word (after 0 v) w h.fits ∙ h.ends;
}

pub Ends-xor : (r s w u : ℕ) → Ends r w → Ends s u → Ends (bit_xor r s) (bit_xor w u)
Ends-xor r s w u h k = record {
  left = xor_lt 32 r s h.left k.left;
  fits = xor_lt 32 w u h.fits k.fits;
  ends =
      after_bits-xor 32 r s w u h.left k.left ∙ ap (λ z. bit_xor z (after_bits 32 s u)) h.ends
      ∙ xor_zero_l (after_bits 32 s u) ∙ k.ends;
}

Ends-shift : (r w : ℕ) → Ends r w → Ends (after_bits 8 r (w % 256)) (w / 256)
Ends-shift r w h =
    let low : after_bits 8 r (w % 256) ≡ after_bits 8 r w =
    after_bits-mod 8 r (w % 256) w (omega arith) in
    let three : after_bits 24 (after_bits 8 r (w % 256)) (w / 256) ≡ 0 =
    ap (λ z. after_bits 24 z (w / 256)) low ∙ sym (after_bits-more 8 24 r w) ∙ h.ends in
    let fits = h.fits in
    let high : w / 256 / 2 ^ 24 ≡ 0 = omega arith in
    record {
      left = after_bits-lt 8 r (w % 256) h.left;
      fits = omega arith;
      ends =
          after_bits-more 24 8 (after_bits 8 r (w % 256)) (w / 256)
          ∙ ap₂ (after_bits 8) three high ∙ after_bits-zero 8;
    }

-- the empty list
pub IsEdc-nil : IsEdc [] 0
IsEdc-nil = IsEdc-from [] 0 (record { left = lit< tt; fits = lit< tt; ends = after_bits-zero 32 })

-- lists with the same remainder have the same words
pub IsEdc-same : (v w : List ℕ) (t : ℕ) → after 0 v ≡ after 0 w → IsEdc v t → IsEdc w t
IsEdc-same v w t e h = IsEdc-from w t (rw e at (Ends-from v t h))

pub IsEdc-same_front : (u v rest b : List ℕ) (t : ℕ) → remainder (bits u) ≡ remainder (bits v)
    → u ++ rest ≡ b → IsEdc (v ++ rest) t → IsEdc b t
IsEdc-same_front u v rest b t same whole h =
    let front : after 0 u ≡ after 0 v = sym (remainder-after u) ∙ same ∙ remainder-after v in
    IsEdc-same (v ++ rest) b t
    (after-append 0 v rest ∙ ap (λ z. after z rest) (sym front) ∙ sym (after-append 0 u rest)
    ∙ ap (after 0) whole) h

-- one more byte after a list
pub IsEdc-push : (v : List ℕ) (w x t : ℕ) → IsEdc v w → IsEdc (bit_xor (w % 256) x ∷ []) t
    → IsEdc (v ++ x ∷ []) (bit_xor (w / 256) t)
IsEdc-push v w x t h k =
    let r = after 0 v in
    let y = bit_xor (w % 256) x in
    let e : bit_xor (after_bits 8 r (w % 256)) (after_bits 8 0 y) ≡ after 0 (v ++ x ∷ []) =
    sym (after-append 0 v (x ∷ [])
    ∙ ap₂ (after_bits 8) (sym (xor_zero_r r)) (sym (xor_twice_left (w % 256) x))
    ∙ after_bits-xor 8 r 0 (w % 256) y (after-lt 0 v (lit< tt)) (lit< tt)) in
    IsEdc-from (v ++ x ∷ []) (bit_xor (w / 256) t)
    (rw e at (Ends-xor (after_bits 8 r (w % 256)) (after_bits 8 0 y) (w / 256) t
    (Ends-shift r w (Ends-from v w h)) (Ends-from (y ∷ []) t k)))

-- bytes after a sum are bytes after one term, and zeros after the other term
pub after-xor_zeros : (r s : ℕ) (v : List ℕ) → r < 2 ^ 32 → s < 2 ^ 32
    → after (bit_xor r s) v ≡ bit_xor (after r (replicate (length v) 0)) (after s v)
after-xor_zeros r s [] hr hs = refl
after-xor_zeros r s (x ∷ v) hr hs =
    ap (λ z. after (after_bits 8 (bit_xor r s) z) v) (sym (xor_zero_l x))
    ∙ ap (λ z. after z v) (after_bits-xor 8 r s 0 x hr hs)
    ∙ after-xor_zeros (after_bits 8 r 0) (after_bits 8 s x) v (after_bits-lt 8 r 0 hr)
    (after_bits-lt 8 s x hs)

-- a byte before a list: the word of the byte with zeros after it, plus the word of the list
pub IsEdc-cons : (y : ℕ) (v : List ℕ) (t w : ℕ) → IsEdc (y ∷ replicate (length v) 0) t → IsEdc v w
    → IsEdc (y ∷ v) (bit_xor t w)
IsEdc-cons y v t w h k =
    let r = after_bits 8 0 y in
    let r_lt : r < 2 ^ 32 = after_bits-lt 8 0 y (lit< tt) in
    let e : bit_xor (after r (replicate (length v) 0)) (after 0 v) ≡ after 0 (y ∷ v) =
    sym (ap (λ z. after z v) (sym (xor_zero_r r)) ∙ after-xor_zeros r 0 v r_lt (lit< tt)) in
    IsEdc-from (y ∷ v) (bit_xor t w)
    (rw e at (Ends-xor (after r (replicate (length v) 0)) (after 0 v) t w
    (Ends-from (y ∷ replicate (length v) 0) t h) (Ends-from v w k)))

-- if y is added to the word after r, the remainder is that of y alone
pub Ends-more : {r w : ℕ} → Ends r w → (y : ℕ) → after_bits 32 r (bit_xor w y) ≡ after_bits 32 0 y
Ends-more {r} {w} ends y =
    ap (λ z. after_bits 32 z (bit_xor w y)) (sym (xor_zero_r r))
    ∙ after_bits-xor 32 r 0 w y ends.left (lit< tt)
    ∙ ap (λ z. bit_xor z (after_bits 32 0 y)) ends.ends ∙ xor_zero_l (after_bits 32 0 y)

-- a list followed by four bytes has the remainder of the sum of these bytes and its EDC word
pub after-four : (v : List ℕ) (w : ℕ) (four : List ℕ) → IsEdc v w → AreBytes four → length four ≡ 4
    → after 0 (v ++ four) ≡ after 0 (to_le_bytes w32 (bit_xor w (number four)))
after-four v w four h bytes long =
    let r = after 0 v in
    let n = number four in
    let y = bit_xor w n in
    let ends = Ends-from v w h in
    let eights : 8 * length four ≡ 32 = omega arith in
    let n_lt : n < 2 ^ 32 = rw eights at (number-lt four bytes) in
    let y_lt : y < 2 ^ 32 = xor_lt 32 w n h.fits n_lt in
    after-append 0 v four
    ∙ after-number r four bytes
    ∙ ap (λ k. after_bits k r n) eights
    ∙ ap (after_bits 32 r) (sym (xor_twice_left w n)) ∙ Ends-more ends y
    ∙ sym (after-word 0 y y_lt)

-- the word is unique
pub IsEdc-unique : (v : List ℕ) (w u : ℕ) → IsEdc v w → IsEdc v u → w ≡ u
IsEdc-unique v w u h k =
    let a = Ends-from v w h in
    let b = Ends-from v u k in
    after_bits-injective 32 (after 0 v) w u (lit≤ tt) a.left h.fits k.fits (a.ends ∙ sym b.ends)

-- lists that differ at most in their last four bytes, and have the same remainder, are equal
same_from_after : (r : ℕ) (v w : List ℕ) → r < 2 ^ 32 → DifferAtMostInLast 4 v w
    → after r v ≡ after r w → v ≡ w
same_from_after r [] [] hr d same = refl
same_from_after r (x ∷ v) (y ∷ w) hr d same = elim (cases_lt (length v) 4) [
  | inl short ↦
      let n = 8 * suc (length v) in
      let same_length = d.same_length in
      let lengths : 8 * suc (length w) ≡ n = omega arith in
      let right_lt : number (y ∷ w) < 2 ^ n = rw lengths at (number-lt (y ∷ w) d.bytes_right) in
      let numbers =
      after_bits-injective n r (number (x ∷ v)) (number (y ∷ w)) (omega arith) hr
      (number-lt (x ∷ v) d.bytes_left) right_lt
      (sym (after-number r (x ∷ v) d.bytes_left) ∙ same ∙ after-number r (y ∷ w) d.bytes_right
      ∙ ap (λ k. after_bits k r (number (y ∷ w))) lengths) in
      number-injective (x ∷ v) (y ∷ w) d.bytes_left d.bytes_right d.same_length numbers
  | inr long ↦
      let first : x ≡ y = d.front 0 (omega arith) in
      let rest =
      same_from_after (after_bits 8 r x) v w (after_bits-lt 8 r x hr)
      (DifferAtMostInLast-tail 4 x y v w d)
      (same ∙ ap (λ z. after (after_bits 8 r z) w) (sym first)) in
      ap₂ (λ z u. z ∷ u) first rest
]
same_from_after r _ _ hr d same = absurd (omega arith)

pub edc_unique : (v w : List ℕ) → DifferAtMostInLast 4 v w → remainder (bits v) ≡ remainder (bits w)
    → v ≡ w
edc_unique v w d same =
    same_from_after 0 v w (lit< tt) d (sym (remainder-after v) ∙ same ∙ remainder-after w)

-- eight bytes after a list: the first four are added to the word, and then the words of all eight
-- bytes, each followed by zeros, are added up
pub IsEdc-eight : (v b ys : List ℕ) (w n t₇ t₆ t₅ t₄ t₃ t₂ t₁ t₀ : ℕ) → IsEdc v w → AreBytes b
    → length b ≡ 8
    → n ≡ from_le_bytes w32 (get_or b 0 0 ∷ get_or b 1 0 ∷ get_or b 2 0 ∷ get_or b 3 0 ∷ [])
    → ys ≡ to_le_bytes w32 (bit_xor w n)
    → IsEdc (get_or ys 0 0 ∷ replicate 7 0) t₇ → IsEdc (get_or ys 1 0 ∷ replicate 6 0) t₆
    → IsEdc (get_or ys 2 0 ∷ replicate 5 0) t₅ → IsEdc (get_or ys 3 0 ∷ replicate 4 0) t₄
    → IsEdc (get_or b 4 0 ∷ replicate 3 0) t₃ → IsEdc (get_or b 5 0 ∷ replicate 2 0) t₂
    → IsEdc (get_or b 6 0 ∷ replicate 1 0) t₁ → IsEdc (get_or b 7 0 ∷ []) t₀
    → IsEdc (v ++ b)
    (bit_xor t₇ (bit_xor t₆ (bit_xor t₅ (bit_xor t₄ (bit_xor t₃ (bit_xor t₂ (bit_xor t₁ t₀)))))))
IsEdc-eight v b ys w n t₇ t₆ t₅ t₄ t₃ t₂ t₁ t₀ h bytes long num split h₇ h₆ h₅ h₄ h₃ h₂ h₁ h₀ =
    let four = get_or b 0 0 ∷ get_or b 1 0 ∷ get_or b 2 0 ∷ get_or b 3 0 ∷ [] in
    let last = get_or b 4 0 ∷ get_or b 5 0 ∷ get_or b 6 0 ∷ get_or b 7 0 ∷ [] in
    let head = get_or ys 0 0 ∷ get_or ys 1 0 ∷ get_or ys 2 0 ∷ get_or ys 3 0 ∷ [] in
    let same_number : n ≡ number four = num ∙ omega arith in
    let four_bytes : AreBytes four =
    AreBytes-four (get_or b 0 0) (get_or b 1 0) (get_or b 2 0) (get_or b 3 0) (bytes 0)
    (bytes 1) (bytes 2) (bytes 3) in
    let heads : to_le_bytes w32 (bit_xor w n) ≡ head =
    ap (λ z. get_or z 0 0 ∷ get_or z 1 0 ∷ get_or z 2 0 ∷ get_or z 3 0 ∷ []) (sym split) in
    let front : after 0 (v ++ four) ≡ after 0 head =
    after-four v w four h four_bytes refl
    ∙ ap (λ z. after 0 (to_le_bytes w32 (bit_xor w z))) (sym same_number) ∙ ap (after 0) heads in
    let parts : b ≡ four ++ last = list_of_eight b long in
    let whole : after 0 (head ++ last) ≡ after 0 (v ++ b) =
    sym (ap (λ z. after 0 (v ++ z)) parts ∙ ap (after 0) (sym (append_assoc v four last))
    ∙ after-append 0 (v ++ four) last
    ∙ ap (λ z. after z last) front ∙ sym (after-append 0 head last)) in
    IsEdc-same (head ++ last) (v ++ b) _ whole
    (IsEdc-cons (get_or ys 0 0) _ t₇ _ h₇
    (IsEdc-cons (get_or ys 1 0) _ t₆ _ h₆
    (IsEdc-cons (get_or ys 2 0) _ t₅ _ h₅
    (IsEdc-cons (get_or ys 3 0) _ t₄ _ h₄
    (IsEdc-cons (get_or b 4 0) _ t₃ _ h₃
    (IsEdc-cons (get_or b 5 0) _ t₂ _ h₂
    (IsEdc-cons (get_or b 6 0) _ t₁ _ h₁ h₀)))))))

-- the remainder of the sum of two lists, byte by byte
pub after-sum : (r s : ℕ) (u v w : List ℕ) → r < 2 ^ 32 → s < 2 ^ 32 → length u ≡ length v
    → length u ≡ length w
    → ((i : ℕ) → i < length u → get_or u i 0 ≡ bit_xor (get_or v i 0) (get_or w i 0))
    → after (bit_xor r s) u ≡ bit_xor (after r v) (after s w)
after-sum r s [] [] [] hr hs e f h = refl
after-sum r s (x ∷ u) (y ∷ v) (z ∷ w) hr hs e f h =
    ap (λ n. after (after_bits 8 (bit_xor r s) n) u) (h 0 (omega arith))
    ∙ ap (λ n. after n u) (after_bits-xor 8 r s y z hr hs)
    ∙ after-sum (after_bits 8 r y) (after_bits 8 s z) u v w (after_bits-lt 8 r y hr)
    (after_bits-lt 8 s z hs)
    (omega arith) (omega arith) (λ i k. h (suc i) (omega arith))
after-sum r s _ _ _ hr hs e f h = absurd (omega arith)

pub remainder-sum : (u v w : List ℕ) → length u ≡ length v → length u ≡ length w → IsSum u v w
    → remainder (bits u) ≡ bit_xor (remainder (bits v)) (remainder (bits w))
remainder-sum u v w e f h =
    remainder-after u ∙ after-sum 0 0 u v w (lit< tt) (lit< tt) e f (λ i _. h.byte i)
    ∙ sym (ap₂ bit_xor (remainder-after v) (remainder-after w))

pub IsEdc-sum : (u v w : List ℕ) → length u ≡ length v → length u ≡ length w → IsSum u v w
    → (a b : ℕ) → IsEdc v a → IsEdc w b → IsEdc u (bit_xor a b)
IsEdc-sum u v w e f h a b one two =
    let left : bit_xor (after 0 v) (after 0 w) ≡ after 0 u =
    sym (after-sum 0 0 u v w (lit< tt) (lit< tt) e f (λ i _. h.byte i)) in
    let both = Ends-xor (after 0 v) (after 0 w) a b (Ends-from v a one) (Ends-from w b two) in
    IsEdc-from u (bit_xor a b) (rw left at both)
