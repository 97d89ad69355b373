-- The error detection code (ECMA-130, 14), as division of polynomials over GF(2).
use Rattle.std.specs.Prelude.{◌≡◌, ℕ, zero, suc, ◌+◌, ◌*◌, ◌/◌, ◌%◌, ◌^◌, ◌<◌, nat_lt, if◌then◌else◌, bit_xor, List, [], ◌∷◌, ◌++◌, fold}
use Rattle.std.specs.Int.{to_le_bytes, w32}

-- the n low bits of a number, the least significant first
abbrev pub low_bits : ℕ → ℕ → List ℕ
low_bits zero x = []
low_bits (suc n) x = x % 2 ∷ low_bits n (x / 2)

-- the bits of bytes, in the order in which they are divided
unfoldable pub bits : List ℕ → List ℕ
bits [] = []
bits (x ∷ xs) = low_bits 8 x ++ bits xs

-- (x^16 + x^15 + x^2 + 1)(x^16 + x^2 + x + 1)
abbrev pub generator : ℕ
generator = 0x18001801B

-- one step of the division: one more bit is appended to the remainder
unfoldable pub divide_step : ℕ → ℕ → ℕ
divide_step r b = if nat_lt (r * 2 + b) (2 ^ 32) then r * 2 + b else bit_xor (r * 2 + b) generator

-- the remainder of bits, the first of the highest power, divided by the generator
unfoldable pub remainder : List ℕ → ℕ
remainder bs = fold divide_step 0 bs

-- w is the EDC word of v: v, followed by the four bytes of w, least significant first, is divisible
pub record IsEdc (v : List ℕ) (w : ℕ) : Type 0 where
  pub fits : w < 2 ^ 32
  pub divides : remainder (bits (v ++ to_le_bytes w32 w)) ≡ 0
