-- The tables of EDC words: one computed test over each table, and the rule at each entry.
use Rattle.std.proofs.Common.{◌≡◌, ℕ, ◌^◌, ◌<◌, Bool, true, ◌&&◌, nat_lt, [], ◌∷◌, ◌++◌, get_or, replicate, refl}
use Rattle.std.specs.Bool.{◌==◌}
use Rattle.std.specs.Int.{to_le_bytes, w32}
use Rattle.std.proofs.lemmas.Bool.{agree_below, agree_below_at, eqb-true, ltb-true, and_parts}
use Rattle.cd_code.specs.Edc.{IsEdc, bits, divide_step, remainder}
use Rattle.cd_code.specs.declared.edc_tables.TheConstants.{WORDS}

-- the word at an entry: it fits, and the bytes followed by it are divisible
abbrev word_at : ℕ → ℕ → ℕ
word_at zeros byte = get_or (get_or WORDS zeros []) byte 0

abbrev is_word_at : ℕ → ℕ → Bool
is_word_at zeros byte =
    nat_lt (word_at zeros byte) (2 ^ 32)
    && (remainder (bits ((byte ∷ replicate zeros 0) ++ to_le_bytes w32 (word_at zeros byte))) == 0)

abbrev is_row : ℕ → Bool
is_row zeros = agree_below (is_word_at zeros) (λ _. true) 256

is_row-all : agree_below is_row (λ _. true) 8 ≡ true
unfolding bits remainder divide_step
is_row-all = refl

pub word_at-IsEdc : (zeros byte : ℕ) → zeros < 8 → byte < 256
    → IsEdc (byte ∷ replicate zeros 0) (word_at zeros byte)
word_at-IsEdc zeros byte hz hb =
    let row = agree_below_at is_row (λ _. true) 8 zeros is_row-all hz in
    let both = agree_below_at (is_word_at zeros) (λ _. true) 256 byte row hb in
    let word = word_at zeros byte in
    let parts =
    and_parts (nat_lt word (2 ^ 32))
    (remainder (bits ((byte ∷ replicate zeros 0) ++ to_le_bytes w32 word)) == 0) both in
    record {
      fits = ltb-true word (2 ^ 32) parts.0;
      divides =
          eqb-true (remainder
          (bits ((byte ∷ replicate zeros 0) ++ to_le_bytes w32 word))) 0 parts.1;
    }
