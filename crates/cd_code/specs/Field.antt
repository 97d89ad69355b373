-- The field GF(2^8) of ECMA-130, Annex A: bytes as polynomials over GF(2), modulo x^8 + x^4 + x^3 +
-- x^2 + 1. The sum of two elements is std's `bit_xor`.
use Rattle.std.specs.Prelude.{◌≡◌, ℕ, zero, suc, ◌==◌, ◌-◌, ◌*◌, ◌/◌, ◌%◌, ◌<◌, ◌≤◌, nat_lt, if◌then◌else◌, bit_xor, List, slice_index}

-- an element times alpha, which is 2: a shift, and 1D is added if the shift gave x^8
unfoldable pub double : ℕ → ℕ
double b = if nat_lt (b * 2) 256 then b * 2 else bit_xor (b * 2 - 256) 29

-- the sum of `a` doubled k times, for each bit k that is set among the low bits of `b`
abbrev pub product_of_bits : ℕ → ℕ → ℕ → ℕ
product_of_bits zero a b = 0
product_of_bits (suc n) a b =
    bit_xor (product_of_bits n (double a) (b / 2)) (if b % 2 == 1 then a else 0)

-- the product of two elements
unfoldable pub product : ℕ → ℕ → ℕ
product a b = product_of_bits 8 a b

-- alpha to the n
abbrev pub power : ℕ → ℕ
power zero = 1
power (suc n) = double (power n)

-- each element is a byte; past the end `slice_index` is 0
abbrev pub AreBytes : List ℕ → Type 0
AreBytes v = (i : ℕ) → slice_index v i < 256

-- u is the sum, element by element, of v and w
pub record IsSum (u v w : List ℕ) : Type 0 where
  pub byte : (i : ℕ) → slice_index u i ≡ bit_xor (slice_index v i) (slice_index w i)

-- plumbing of `times`: n is the logarithm of `a`, or 510 if `a` is 0, which has no logarithm
pub record IsLogarithm (a n : ℕ) : Type 0 where
  pub none : a ≡ 0 → n ≡ 510
  pub below : 0 < a → n < 255
  pub power : 0 < a → power n ≡ a

-- plumbing of `times`: `b` is alpha to the n, where n is the sum of two logarithms, or 0 if n is
-- 510 or more, since one of the two is then the logarithm of 0
pub record IsExponent (n b : ℕ) : Type 0 where
  pub power : n < 510 → b ≡ power n
  pub none : 510 ≤ n → b ≡ 0
