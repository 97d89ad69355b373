-- The block with an address.
use Rattle.std.specs.Prelude.{ℕ, ◌+◌, ◌*◌, ◌/◌, ◌%◌}

-- the number of two decimal digits in one byte
abbrev pub bcd_value : ℕ → ℕ
bcd_value byte = byte / 16 * 10 + byte % 16
