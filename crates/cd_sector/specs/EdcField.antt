-- The EDC field of a sector: four bytes after the user data, the least significant first
-- (ECMA-130, 14).
use Rattle.std.specs.Prelude.{◌≡◌, ℕ, ◌^◌, ◌<◌, bit_xor, List, take, slice_range}
use Rattle.std.specs.Int.{to_le_bytes, w32}
use Rattle.cd_code.specs.Edc.{IsEdc}

-- the first 2064 bytes are followed by their EDC, with `error` added to it
pub record StoresEdc (s : List ℕ) (error : ℕ) : Type 0 where
  pub word : ℕ
  pub fits : error < 2 ^ 32
  pub is_word : IsEdc (take 2064 s) word
  pub at_end : slice_range s 2064 2068 ≡ to_le_bytes w32 (bit_xor word error)
