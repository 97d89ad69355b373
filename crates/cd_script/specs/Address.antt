-- The header addresses that words spell (ECMA-130, 14).
use Rattle.std.specs.Prelude.{◌≡◌, ℕ, ◌+◌, ◌*◌, ◌/◌, ◌%◌, ◌<◌, ◌==◌, ◌&&◌, nat_lt, if◌then◌else◌, List, [], ◌∷◌, Option, Some, None}
use Rattle.std.specs.Char.{is_ascii_digit}
use Rattle.cd_address.specs.Address.{bcd}
use Rattle.cd_script.specs.Hex.{◌>>=◌}
use Rattle.cd_script.specs.Limits.{minute_limit, second_limit, fraction_limit}
use Rattle.cd_script.specs.Number.{digits_value}

-- two decimal digits in BCD, if their number is below a limit
unfoldable pub bcd_below : ℕ → ℕ → ℕ → Option ℕ
bcd_below limit high low =
    if is_ascii_digit high && is_ascii_digit low && nat_lt (digits_value (high ∷ low ∷ [])) limit
    then Some (bcd (digits_value (high ∷ low ∷ []))) else None

-- the minute 0 to 99, the second 0 to 59 and the fraction 0 to 74, two digits each
unfoldable pub header_bytes : ℕ → ℕ → ℕ → ℕ → ℕ → ℕ → Option (List ℕ)
header_bytes m n s t f g = do
  minute ← bcd_below minute_limit m n
  second ← bcd_below second_limit s t
  fraction ← bcd_below fraction_limit f g
  Some (minute ∷ second ∷ fraction ∷ [])

-- MM:SS:FF, as the three bytes of a header
unfoldable pub address_bytes : List ℕ → Option (List ℕ)
address_bytes (m ∷ n ∷ c ∷ s ∷ t ∷ d ∷ f ∷ g ∷ []) =
    if c == 58 && d == 58 then header_bytes m n s t f g else None
address_bytes other = None

-- the three bytes of a minute, a second and a fraction
pub record IsAddress (bytes : List ℕ) : Type 0 where
  pub minute : ℕ
  pub second : ℕ
  pub fraction : ℕ
  pub is_minute : minute < minute_limit
  pub is_second : second < second_limit
  pub is_fraction : fraction < fraction_limit
  pub are : bytes ≡ bcd minute ∷ bcd second ∷ bcd fraction ∷ []

-- the byte is a number below a limit, in BCD
pub record IsBcd (limit byte : ℕ) : Type 0 where
  pub number : ℕ
  pub below : number < limit
  pub is : byte ≡ bcd number
