-- Sums of field elements: `bit_xor` as a group in which each element is its own inverse.
use Rattle.std.proofs.Common.{◌≡◌, ℕ, zero, suc, ◌+◌, ◌*◌, ◌/◌, ◌%◌, ◌^◌, ◌<◌, bit_xor, sym, ap, ◌∙◌, arith, lit<}
use Rattle.std.specs.Int.Bits.{xor_self, xor_zero_l, xor_zero_r, xor_assoc}
use Rattle.std.proofs.lemmas.Nat.{xor_shr, xor_mod, xor_block, shr_below}
use Rattle.std.proofs.lemmas.Nat.Bits.{bit_at_lowest, bit_at_xor, same_from_bits}

-- a term that is added twice cancels
pub xor_twice : (a b : ℕ) → bit_xor (bit_xor a b) b ≡ a
xor_twice a b = xor_assoc a b b ∙ ap (bit_xor a) (xor_self b) ∙ xor_zero_r a

pub xor_twice_left : (a b : ℕ) → bit_xor a (bit_xor a b) ≡ b
xor_twice_left a b = sym (xor_assoc a a b) ∙ ap (λ z. bit_xor z b) (xor_self a) ∙ xor_zero_l b

-- the middle terms of two pairs are exchanged
pub xor_swap : (a b c d : ℕ)
    → bit_xor (bit_xor a b) (bit_xor c d) ≡ bit_xor (bit_xor a c) (bit_xor b d)
xor_swap a b c d = same_from_bits _ _ (λ i. simp bit_at_xor (omega arith))

-- a term that two sums have in common cancels
pub xor_common : (a b c : ℕ) → bit_xor (bit_xor a b) (bit_xor a c) ≡ bit_xor c b
xor_common a b c = same_from_bits _ _ (λ i. simp bit_at_xor (omega arith))

-- equal terms on the left cancel
pub xor_cancel : (a b c : ℕ) → bit_xor a b ≡ bit_xor a c → b ≡ c
xor_cancel a b c e = sym (xor_twice_left a b) ∙ ap (bit_xor a) e ∙ xor_twice_left a c

-- equal terms on the right cancel
pub xor_cancel_right : (a b c : ℕ) → bit_xor a c ≡ bit_xor b c → a ≡ b
xor_cancel_right a b c e = sym (xor_twice a c) ∙ ap (λ z. bit_xor z c) e ∙ xor_twice b c

-- two numbers are equal if their sum is 0
pub same_from_xor : (a b : ℕ) → bit_xor a b ≡ 0 → a ≡ b
same_from_xor a b e = xor_cancel_right a b b (e ∙ sym (xor_self b))

pub xor_half : (a b : ℕ) → bit_xor a b / 2 ≡ bit_xor (a / 2) (b / 2)
xor_half a b = xor_shr a b 1

pub xor_low : (a b : ℕ) → bit_xor a b % 2 ≡ bit_xor (a % 2) (b % 2)
xor_low a b = xor_mod a b 1

pub xor_twofold : (a b : ℕ) → bit_xor a b * 2 ≡ bit_xor (a * 2) (b * 2)
xor_twofold a b =
    let e : bit_xor (a * 2 + 0) (b * 2 + 0) ≡ bit_xor a b * 2 + bit_xor 0 0 =
    xor_block 1 a b 0 0 (lit< tt) (lit< tt) in
    let l : a * 2 + 0 ≡ a * 2 = omega arith in
    let r : b * 2 + 0 ≡ b * 2 = omega arith in
    let t : bit_xor a b * 2 + 0 ≡ bit_xor a b * 2 = omega arith in
    sym (sym (ap (λ z. bit_xor z (b * 2 + 0)) l ∙ ap (bit_xor (a * 2)) r) ∙ e ∙ t)

-- the sum of two bits
pub xor_bits : (a b : ℕ) → bit_xor (a % 2) (b % 2) ≡ (a + b) % 2
xor_bits a b =
    sym (xor_low a b) ∙ sym (bit_at_lowest (bit_xor a b)) ∙ bit_at_xor a b 0
    ∙ (let p = bit_at_lowest a in let q = bit_at_lowest b in omega arith)

-- a sum, bit by bit
pub xor_by_bits : (a b : ℕ) → bit_xor a b ≡ 2 * bit_xor (a / 2) (b / 2) + (a + b) % 2
xor_by_bits a b =
    let half = xor_half a b in
    let low = xor_low a b in
    let bits = xor_bits a b in
    omega arith

-- a function of a bit that is 0 at 0 is linear
pub linear_at_bits : (f : ℕ → ℕ) → f 0 ≡ 0 → (x y : ℕ) → x < 2 → y < 2
    → f (bit_xor x y) ≡ bit_xor (f x) (f y)
linear_at_bits f none zero zero _ _ = none ∙ sym (xor_self (f 0))
linear_at_bits f none zero (suc zero) _ _ =
    sym (ap (λ z. bit_xor z (f 1)) none ∙ xor_zero_l (f 1))
linear_at_bits f none (suc zero) zero _ _ = sym (ap (bit_xor (f 1)) none ∙ xor_zero_r (f 1))
linear_at_bits f none (suc zero) (suc zero) _ _ = none ∙ sym (xor_self (f 1))
linear_at_bits f none _ _ h k = absurd (omega arith)

pub half_below : (n x : ℕ) → x < 2 ^ suc n → x / 2 < 2 ^ n
half_below n x h = shr_below x n 1 (let e : n + 1 ≡ suc n = omega arith in rw e h)
