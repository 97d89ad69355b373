-- The address of a block in its header: minute, second, and fraction in BCD, with block 0 at two
-- seconds (ECMA-130, 14).
use Rattle.std.specs.Prelude.{ℕ, ◌+◌, ◌*◌, ◌/◌, ◌%◌, nat_le, if◌then◌else◌, List, [], ◌∷◌, Option, Some, None}

-- two decimal digits in one byte
abbrev pub bcd : ℕ → ℕ
bcd n = 16 * (n / 10) + n % 10

-- the address at t fractions, of which 75 are a second
abbrev pub bcd_address : ℕ → List ℕ
bcd_address t = bcd (t / 4500) ∷ bcd (t / 75 % 60) ∷ bcd (t % 75) ∷ []

-- the last block that has an address, which is 99:59:74
abbrev pub last_block : ℕ
last_block = 449849

-- the address of a block; past minute 99 there is none
unfoldable pub address : ℕ → Option (List ℕ)
address block = if nat_le block last_block then Some (bcd_address (block + 150)) else None
