-- The crate `hex` decodes exactly the hex words.
use Rattle.std.proofs.Common.{◌≡◌, ℕ, Bool, true, false, slice_index_or, ◌+◌, ◌*◌, ◌%◌, ◌==◌, ◌&&◌, List, [], ◌∷◌, length, Option, Some, None, Result, Ok, Err, refl, sym, ap, ◌∙◌, arith, inl, inr}
use Rattle.std.specs.Prelude.{option_and_then, is_some, IsSome}
use Rattle.std.specs.List.{list_all}
use Rattle.std.specs.Option.{unwrap_or}
use Rattle.std.specs.Result.{result_ok}
use Rattle.std.specs.Cmp.Derive.{both_true}
use Rattle.std.proofs.Math.Bool.{and-false}
use Rattle.std.proofs.lemmas.Bool.{cases_eq, eq-eqb, ne_eqb}
use Rattle.hex.specs.Hex.{decode_of, decode_pairs, decode_sized, digit_or_error, hex_digit_value, is_hex_digit, ◌>>=◌}
use Rattle.hex.specs.declared.error.FromHexError.{FromHexError}
use Rattle.hex.proofs.HexLemmas.{decode_of-even, decode_of-odd, decode_of-ok, decode_pairs-ok, decode_sized-twice}
use Rattle.cd_script.specs.Hex.{hex_bytes, spelled_bytes}

-- the bytes of a result that is known to have them
pub decoded : (read : Result (List ℕ) FromHexError) (bytes : List ℕ) → result_ok read ≡ Some bytes
    → read ≡ Ok bytes
decoded (Ok x) bytes e = cc
decoded (Err f) bytes e = absurd cc

spells : (o : Option (List ℕ)) (bytes : List ℕ) → IsSome o → unwrap_or o [] ≡ bytes → o ≡ Some bytes
spells (Some x) bytes some e = ap Some e
spells None bytes some e = cc

-- whether two digits and a rest spell bytes
digits_test : (a b : Option ℕ) (rest : Option (List ℕ)) (even digits : Bool)
    → is_some rest ≡ (even && digits)
    → is_some (option_and_then
    (λ h. option_and_then (λ l. option_and_then (λ bytes. Some ((h * 16 + l) ∷ bytes)) rest) b) a)
    ≡ (even && (is_some a && (is_some b && digits)))
digits_test (Some h) (Some l) (Some bytes) even digits e = e
digits_test (Some h) (Some l) None even digits e = e
digits_test (Some h) None rest even digits e = sym (and-false even)
digits_test None b rest even digits e = sym (and-false even)

step : (a b : Option ℕ) (rest : Result (List ℕ) FromHexError) (high low i : ℕ)
    → result_ok ((digit_or_error high i a >>= λ h. digit_or_error low (i + 1) b
    >>= λ l. Ok (h * 16 + l)) >>= λ byte. rest >>= λ bytes. Ok (byte ∷ bytes))
    ≡ option_and_then
    (λ h. option_and_then
    (λ l. option_and_then (λ bytes. Some ((h * 16 + l) ∷ bytes)) (result_ok rest)) b) a
step (Some h) (Some l) (Ok bytes) high low i = refl
step (Some h) (Some l) (Err e) high low i = refl
step (Some h) None rest high low i = refl
step None b rest high low i = refl

pairs : (i : ℕ) (s : List ℕ) → result_ok (decode_pairs i s) ≡ hex_bytes s
unfolding decode_pairs hex_bytes
pairs i [] = refl
pairs i (digit ∷ []) = refl
pairs i (high ∷ low ∷ rest) =
    step (hex_digit_value high) (hex_digit_value low) (decode_pairs (i + 2) rest) high low i
    ∙ ap (λ (o : Option (List ℕ)).
    option_and_then (λ h.
    option_and_then (λ l. option_and_then (λ bytes. Some ((h * 16 + l) ∷ bytes)) o)
    (hex_digit_value low)) (hex_digit_value high)) (pairs (i + 2) rest)

odd_none : (s : List ℕ) (read : Result (List ℕ) FromHexError) → decode_pairs 0 s ≡ read
    → length s % 2 ≡ 1 → result_ok read ≡ None
odd_none s (Ok bytes) e odd = absurd (omega (arith, (decode_pairs-ok 0 s bytes e).1))
odd_none s (Err f) e odd = refl

pub result_ok-decode_of : (s : List ℕ) → result_ok (decode_of s) ≡ hex_bytes s
result_ok-decode_of s =
    elim (cases_eq (length s % 2) 1) [
      | inl odd ↦
          ap result_ok (decode_of-odd s odd)
          ∙ sym (odd_none s (decode_pairs 0 s) refl odd) ∙ pairs 0 s
      | inr even ↦ ap result_ok (decode_of-even s (omega arith)) ∙ pairs 0 s
    ]

-- the bytes that a hex word spells
pub hex_spells : (s bytes : List ℕ) → IsSome (hex_bytes s) → spelled_bytes s ≡ bytes
    → hex_bytes s ≡ Some bytes
hex_spells s bytes some e = spells (hex_bytes s) bytes some e

-- a word spells bytes exactly if it is an even number of hex digits
pub hex_test : (s : List ℕ) → is_some (hex_bytes s) ≡ (length s % 2 == 0 && list_all is_hex_digit s)
unfolding hex_bytes
hex_test [] = refl
hex_test (digit ∷ []) = refl
hex_test (high ∷ low ∷ rest) =
    let even : (length (high ∷ low ∷ rest) % 2 == 0) ≡ (length rest % 2 == 0) =
    ap (λ (n : ℕ). n == 0) (omega arith) in
    digits_test (hex_digit_value high) (hex_digit_value low) (hex_bytes rest) (length rest % 2 == 0)
    (list_all is_hex_digit rest) (hex_test rest)
    ∙ ap (λ (b : Bool).
    b && (is_hex_digit high && (is_hex_digit low && list_all is_hex_digit rest))) (sym even)

none_from : (o : Option (List ℕ)) → is_some o ≡ false → None ≡ o
none_from None e = refl
none_from (Some x) e = cc

pub hex_odd : (s : List ℕ) → length s % 2 ≡ 1 → None ≡ hex_bytes s
hex_odd s odd =
    let test : (length s % 2 == 0) ≡ false = ne_eqb (length s % 2) 0 (λ e. omega arith) in
    none_from (hex_bytes s) (hex_test s ∙ rw test refl)

pub hex_other : (s : List ℕ) → list_all is_hex_digit s ≡ false → None ≡ hex_bytes s
hex_other s other =
    none_from (hex_bytes s) (hex_test s ∙ rw other (and-false (length s % 2 == 0)))

pub hex_some : (s : List ℕ) → length s % 2 ≡ 0 → list_all is_hex_digit s ≡ true
    → IsSome (hex_bytes s)
hex_some s even digits = hex_test s ∙ both_true (eq-eqb (length s % 2) 0 even) digits

-- a hex word has two digits for each byte
pub length-hex_bytes : (s bytes : List ℕ) → hex_bytes s ≡ Some bytes → length s ≡ 2 * length bytes
length-hex_bytes s bytes e =
    (decode_of-ok s bytes (decoded (decode_of s) bytes (result_ok-decode_of s ∙ e))).2

-- a hex word is decoded to a slice with as many bytes as it spells
pub decode_sized-hex : (s bytes : List ℕ) (n : ℕ) → IsSome (hex_bytes s) → spelled_bytes s ≡ bytes
    → n ≡ length bytes → decode_sized s n ≡ Ok bytes
decode_sized-hex s bytes n some are same =
    let e = hex_spells s bytes some are in
    let long = length-hex_bytes s bytes e in
    decode_sized-twice s n (omega arith) ∙ decoded (decode_of s) bytes (result_ok-decode_of s ∙ e)

-- the one byte of a list
pub one_byte : (bytes out : List ℕ) → length bytes ≡ 1 → out ≡ bytes
    → bytes ≡ slice_index_or out 0 0 ∷ []
one_byte [] out e same = absurd (omega arith)
one_byte (b ∷ []) out e same = ap (λ (l : List ℕ). slice_index_or l 0 0 ∷ []) (sym same)
one_byte (b ∷ c ∷ bytes) out e same = absurd (omega arith)
