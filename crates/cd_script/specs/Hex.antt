-- The bytes that hex words spell.
use Rattle.std.specs.Prelude.{ℕ, ◌+◌, ◌*◌, List, [], ◌∷◌, Option, Some, None, option_and_then}
use Rattle.std.specs.Option.{unwrap_or}
use Rattle.hex.specs.Hex.{hex_digit_value}

-- plumbing of `do`: continues with the value, if there is one
infixl 10 ◌>>=◌
abbrev pub ◌>>=◌ : {A B : Type 0} → Option A → (A → Option B) → Option B
o >>= f = option_and_then f o

-- two digits for each byte, in either case, the high four bits first
unfoldable pub hex_bytes : List ℕ → Option (List ℕ)
hex_bytes [] = Some []
hex_bytes (digit ∷ []) = None
hex_bytes (high ∷ low ∷ rest) = do
  h ← hex_digit_value high
  l ← hex_digit_value low
  bytes ← hex_bytes rest
  Some ((h * 16 + l) ∷ bytes)

-- the bytes of a word that is a hex word
abbrev pub spelled_bytes : List ℕ → List ℕ
spelled_bytes word = unwrap_or (hex_bytes word) []
