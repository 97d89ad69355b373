-- The value of one word of a line, or the error of the word.
use Rattle.std.specs.Prelude.{ℕ, ◌==◌, ◌&&◌, nat_le, List, [], ◌∷◌, length, ok_or, Result, Ok, Err, if◌then◌else◌}
use Rattle.cd_script.specs.declared.fault.ScriptFault.{ScriptFault}
use Rattle.cd_script.specs.declared.fault.ScriptFault.TheVariants.{Address, Number, Hex, Length, Offset}
use Rattle.cd_script.specs.Address.{address_bytes}
use Rattle.cd_script.specs.Limits.{bytes_limit, offset_limit}
use Rattle.cd_script.specs.Number.{number}
use Rattle.cd_script.specs.Hex.{hex_bytes}
use Rattle.cd_script.specs.FirstFault.{◌>>=◌}

-- a number, or its error
unfoldable pub number_at : ℕ → List ℕ → Result ℕ ScriptFault
number_at line word = ok_or (number word) (Number line)

-- the bytes of a hex word, or its error
unfoldable pub hex_at : ℕ → List ℕ → Result (List ℕ) ScriptFault
hex_at line word = ok_or (hex_bytes word) (Hex line)

-- an offset in a block, or an error
unfoldable pub offset_at : ℕ → List ℕ → Result ℕ ScriptFault
offset_at line word = do
  offset ← number_at line word
  if nat_le offset offset_limit then Ok offset else Err (Offset line)

-- a count of bytes that a patch may change, or an error
unfoldable pub count_at : ℕ → List ℕ → Result ℕ ScriptFault
count_at line word = do
  count ← number_at line word
  if nat_le 1 count && nat_le count bytes_limit then Ok count else Err (Length line)

-- new bytes, as many as a patch may change, or a fault
unfoldable pub new_at : ℕ → List ℕ → Result (List ℕ) ScriptFault
new_at line word = do
  bytes ← hex_at line word
  if nat_le 1 (length bytes) && nat_le (length bytes) bytes_limit
      then Ok bytes
      else Err (Length line)

-- old bytes, as many as the new bytes, or an error
unfoldable pub old_at : ℕ → List ℕ → List ℕ → Result (List ℕ) ScriptFault
old_at line new word = do
  bytes ← hex_at line word
  if length bytes == length new then Ok bytes else Err (Length line)

-- the byte of a list of just one
abbrev pub only_byte : ℕ → List ℕ → Result ℕ ScriptFault
only_byte line (b ∷ []) = Ok b
only_byte line other = Err (Length line)

-- the single byte that a fill writes, or an error
unfoldable pub byte_at : ℕ → List ℕ → Result ℕ ScriptFault
byte_at line word = hex_at line word >>= only_byte line

-- the three bytes of `MM:SS:FF`, or the error
unfoldable pub address_at : ℕ → List ℕ → Result (List ℕ) ScriptFault
address_at line word = ok_or (address_bytes word) (Address line)
