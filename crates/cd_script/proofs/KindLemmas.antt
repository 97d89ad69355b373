-- The kinds of words: the value that is read from a word keeps to the limits of its kind, and a
-- value that keeps to them is spelled by a word that is read as this value.
use Rattle.std.proofs.Common.{◌≡◌, ℕ, ◌+◌, ◌-◌, ◌*◌, ◌<◌, ◌≤◌, Bool, true, false, cond, List, [], ◌∷◌, length, get_or, Option, Some, None, Result, Ok, Err, refl, subst, sym, ap, ◌∙◌, arith, rules}
use Rattle.std.specs.Prelude.{All, fold, option_and_then, nat_lt, ok_or, nat_le, ◌==◌, ◌&&◌, IfOk, IfSome}
use Rattle.std.specs.Char.{is_ascii_digit}
use Rattle.std.specs.Fmt.{decimal}
use Rattle.std.specs.List.{list_all}
use Rattle.std.specs.Result.{result_ok}
use Rattle.std.proofs.lemmas.Bool.{and_parts, leb-true, le-leb, eqb-true, eq-eqb}
use Rattle.std.proofs.lemmas.Bool.Decides.{nat_tests}
use Rattle.std.proofs.lemmas.Fmt.{decimal_is_IsNumeral, digits_decimal, digits_value-decimal, length-decimal-le}
use Rattle.std.proofs.lemmas.Str.Parse.{IsNumeralModel, digits_value_short, numerals_by_fold}
use Rattle.std.proofs.lemmas.List.{get_or_default, get_or_past}
use Rattle.std.proofs.lemmas.List.Elements.{All-nil, All-cons}
use Rattle.std.proofs.lemmas.List.Sums.{AllPass-from_list_all}
use Rattle.hex.specs.Hex.{decode_of, encode_upper}
use Rattle.hex.proofs.HexLemmas.{decode_of-encode_upper, decode_of-ok}
use Rattle.cd_script.specs.declared.fault.ScriptFault.{ScriptFault}
use Rattle.cd_script.specs.declared.fault.ScriptFault.TheVariants.{Address, Number, Hex}
use Rattle.cd_address.specs.Address.{bcd}
use Rattle.cd_script.specs.Address.{IsAddress, address_bytes, bcd_below, header_bytes}
use Rattle.cd_script.specs.Hex.{hex_bytes}
use Rattle.cd_script.specs.Limits.{bytes_limit, digit_limit, fraction_limit, minute_limit, number_limit, offset_limit, second_limit}
use Rattle.cd_script.specs.Value.{address_at, number_at, hex_at, offset_at, count_at, new_at, old_at, byte_at, only_byte}
use Rattle.cd_script.specs.Number.{number, digits_value}
use Rattle.cd_script.specs.Patch.{IsBytes}
use Rattle.cd_script.specs.FirstFault.{◌>>=◌}
use Rattle.cd_script.specs.Spelling.{address_word, high_digit, low_digit}
use Rattle.cd_script.proofs.HexLemmas.{decoded, result_ok-decode_of}

-- ---- steps of a reading

-- a step, and the next one if it did not fail
pub then_keeps : {A B : Type 0} (P : A → Type 0) (Q : B → Type 0) (r : Result A ScriptFault)
    (f : A → Result B ScriptFault) → IfOk r P → ((x : A) → P x → IfOk (f x) Q) → IfOk (r >>= f) Q
then_keeps P Q (Ok x) f h next = next x h
then_keeps P Q (Err e) f h next = tt

-- one of two readings
pub cond_keeps : {A : Type 0} (P : A → Type 0) (b : Bool) (x y : Result A ScriptFault)
    → (b ≡ true → IfOk x P) → (b ≡ false → IfOk y P) → IfOk (cond b x y) P
cond_keeps P true x y h k = h refl
cond_keeps P false x y h k = k refl

-- a value or an error
given_keeps : {A : Type 0} (P : A → Type 0) (o : Option A) (d : ScriptFault) → IfSome o P
    → IfOk (ok_or o d) P
given_keeps P (Some x) d h = h
given_keeps P None d h = tt

-- a value that an option contains
some_if : {A : Type 0} {P : A → Type 0} (o : Option A) → ((x : A) → o ≡ Some x → P x) → IfSome o P
some_if (Some x) h = h x refl
some_if None h = tt

-- a value after a test
some_keeps : {A : Type 0} (P : A → Type 0) (b : Bool) (o : Option A) → (b ≡ true → IfSome o P)
    → IfSome (cond b o None) P
some_keeps P true o h = h refl
some_keeps P false o h = tt

-- a step that may have no value, and the next one if it has one
some_then : {A B : Type 0} (P : A → Type 0) (Q : B → Type 0) (o : Option A) (f : A → Option B)
    → IfSome o P → ((x : A) → P x → IfSome (f x) Q) → IfSome (option_and_then f o) Q
some_then P Q (Some x) f h next = next x h
some_then P Q None f h next = tt

-- ---- kinds

-- a word without spaces and line ends
pub record IsPlainWord (w : List ℕ) : Type 0 where
  pub some : 0 < length w
  pub plain : All (λ b. 33 ≤ b) w

-- a word that passes a computed test
pub plain_word : (w : List ℕ) → (nat_le 1 (length w) && list_all (nat_le 33) w) ≡ true
    → IsPlainWord w
plain_word w test =
    let parts = and_parts (nat_le 1 (length w)) (list_all (nat_le 33) w) test in
    record {
      some = leb-true 1 (length w) parts.0;
      plain = λ k d lt.
          leb-true 33 (get_or w k d) (AllPass-from_list_all (nat_le 33) w parts.1 k d lt);
    }

-- a plain word that is read as a value
pub record Spells {V : Type 0} (read : List ℕ → Result V ScriptFault) (w : List ℕ) (v : V)
    : Type 0 where
  pub plain : IsPlainWord w
  pub reads : read w ≡ Ok v

-- a kind of words: how a word is read, the limits of its value, and how a value is spelled
pub record IsKind {V : Type 0} (read : List ℕ → Result V ScriptFault) (Fits : V → Type 0)
    (spell : V → List ℕ) : Type 0 where
  pub keeps : (w : List ℕ) → IfOk (read w) Fits
  pub spells : (v : V) → Fits v → Spells read (spell v) v

-- a word of a kind, and the words after it
pub word_keeps : {V B : Type 0} {read : List ℕ → Result V ScriptFault} {Fits : V → Type 0}
    {spell : V → List ℕ} (Q : B → Type 0) → IsKind read Fits spell → (w : List ℕ)
    (f : V → Result B ScriptFault) → ((v : V) → Fits v → IfOk (f v) Q) → IfOk (read w >>= f) Q
word_keeps {V} {B} {read} {Fits} Q kind w f next =
    then_keeps Fits Q (read w) f (kind.keeps w) next

-- ---- numbers

digits : IsNumeralModel (λ w. list_all is_ascii_digit w ≡ true) digits_value
digits =
    numerals_by_fold _ (search rules) (λ n w. fold (λ n b. 10 * n + (b - 48)) n w) (search rules)

number-keeps : (w : List ℕ) → IfSome (number w) (λ n. n ≤ number_limit)
unfolding number
number-keeps w = grind (arith, nat_tests, digits_value_short digits w digit_limit)

pub number-kind : (line : ℕ) → IsKind (number_at line) (λ n. n ≤ number_limit) decimal
unfolding number_at number
number-kind line = record {
  keeps = λ w. given_keeps _ (number w) (Number line) (number-keeps w);
  spells = λ n le.
      let some = (decimal_is_IsNumeral n (omega arith)).0.0 in
      let few = length-decimal-le digit_limit n (omega arith) (omega arith) (omega arith) in
      let all = digits_decimal digits n (omega arith) in
      let value = digits_value-decimal digits n (omega arith) in
      record {
        plain = record {
          some = some;
          plain = λ k d lt.
              grind (arith, nat_tests, AllPass-from_list_all is_ascii_digit (decimal n) all k d lt);
        };
        reads = rw (le-leb _ _ some, le-leb _ _ few, all, value) refl;
      };
}

pub offset-kind : (line : ℕ) → IsKind (offset_at line) (λ n. n ≤ offset_limit) decimal
unfolding offset_at
offset-kind line = record {
  keeps = λ w. grind (arith, nat_tests, (number-kind line).keeps w);
  spells = λ n le.
      let same = (number-kind line).spells n (omega arith) in
      record { plain = same.plain; reads = rw (same.reads, le-leb _ _ le) refl };
}

pub count-kind : (line : ℕ) → IsKind (count_at line) (λ n. (1 ≤ n) × (n ≤ bytes_limit)) decimal
unfolding count_at
count-kind line = record {
  keeps = λ w. grind (arith, nat_tests, (number-kind line).keeps w);
  spells = λ n le.
      let same = (number-kind line).spells n (omega (arith, le.1)) in
      record { plain = same.plain; reads = rw (same.reads, le-leb _ _ le.0, le-leb _ _ le.1) refl };
}

-- ---- bytes

hex_at-keeps : (line : ℕ) (w : List ℕ) → IfOk (hex_at line w) (All (λ b. b < 256))
unfolding hex_at
hex_at-keeps line w = given_keeps _ (hex_bytes w) (Hex line) (some_if (hex_bytes w) (λ bytes found.
    let fit =
    (decode_of-ok w bytes (decoded (decode_of w) bytes (result_ok-decode_of w ∙ found))).3 in
    λ k d lt. subst (λ (b : ℕ). b < 256) (get_or_default bytes k 0 d lt) (fit k)))

decoded-encode : (bytes : List ℕ) → All (λ b. b < 256) bytes
    → decode_of (encode_upper bytes) ≡ Ok bytes
decoded-encode bytes each =
    decode_of-encode_upper bytes (λ i. grind (arith, each i 0, get_or_past bytes i 0))

hex-spells : (line : ℕ) (bytes : List ℕ) → 1 ≤ length bytes → All (λ b. b < 256) bytes
    → Spells (hex_at line) (encode_upper bytes) bytes
unfolding hex_at
hex-spells line bytes some each =
    let decodes = decoded-encode bytes each in
    let parts = decode_of-ok (encode_upper bytes) bytes decodes in
    record {
      plain = record {
        some = omega (arith, parts.2);
        plain = λ k d lt. grind (arith, nat_tests, parts.1 k d lt);
      };
      reads =
          ap (λ (o : Option (List ℕ)). ok_or o (Hex line))
          (sym (result_ok-decode_of (encode_upper bytes)) ∙ ap result_ok decodes);
    }

pub new-kind : (line : ℕ) → IsKind (new_at line) IsBytes encode_upper
unfolding new_at
new-kind line = record {
  keeps = λ w.
      then_keeps _ _ (hex_at line w) _ (hex_at-keeps line w) (λ bytes each.
      cond_keeps _ (nat_le 1 (length bytes) && nat_le (length bytes) bytes_limit) _ _ (λ test.
      record { some = grind (arith, nat_tests); most = grind (arith, nat_tests); each = each })
      (λ _. tt));
  spells = λ bytes fits.
      let hex = hex-spells line bytes fits.some fits.each in
      record {
        plain = hex.plain;
        reads = rw (hex.reads, le-leb _ _ fits.some, le-leb _ _ fits.most) refl;
      };
}

pub old-kind : (line : ℕ) (new : List ℕ) → IsBytes new
    → IsKind (old_at line new) (λ old. IsBytes old × (length old ≡ length new)) encode_upper
unfolding old_at
old-kind line new fit = record {
  keeps = λ w.
      then_keeps _ _ (hex_at line w) _ (hex_at-keeps line w) (λ bytes each.
      cond_keeps _ (length bytes == length new) _ _ (λ test.
      let same : length bytes ≡ length new = eqb-true _ _ test in
      let some : 1 ≤ length bytes = omega (arith, fit.some) in
      let few : length bytes ≤ bytes_limit = omega (arith, fit.most) in
      (record { some = some; most = few; each = each }, same)) (λ _. tt));
  spells = λ bytes fits.
      let hex = hex-spells line bytes fits.0.some fits.0.each in
      record { plain = hex.plain; reads = rw (hex.reads, eq-eqb _ _ fits.1) refl };
}

one_byte : (v : ℕ) → v < 256 → All (λ b. b < 256) (v ∷ [])
one_byte v lt = All-cons (λ b. b < 256) v [] lt (All-nil (λ b. b < 256))

only_byte-keeps : (line : ℕ) (bytes : List ℕ) → All (λ b. b < 256) bytes
    → IfOk (only_byte line bytes) (λ v. v < 256)
only_byte-keeps line bytes each = grind (arith, each 0 0)

pub byte-kind : (line : ℕ) → IsKind (byte_at line) (λ v. v < 256) (λ v. encode_upper (v ∷ []))
unfolding byte_at
byte-kind line = record {
  keeps = λ w. then_keeps _ _ (hex_at line w) _ (hex_at-keeps line w) (only_byte-keeps line);
  spells = λ v lt.
      let hex = hex-spells line (v ∷ []) (omega arith) (one_byte v lt) in
      record { plain = hex.plain; reads = rw hex.reads refl };
}

-- ---- addresses

bcd_below-keeps : (limit high low : ℕ)
    → IfSome (bcd_below limit high low) (λ b. (n : ℕ) × (n < limit) × (bcd n ≡ b))
unfolding bcd_below
bcd_below-keeps limit high low =
    let n = digits_value (high ∷ low ∷ []) in
    some_keeps _ (is_ascii_digit high && is_ascii_digit low && nat_lt n limit) _ (λ test.
    let parts = and_parts (is_ascii_digit high && is_ascii_digit low) (nat_lt n limit) test in
    let below : n < limit = grind (arith, nat_tests, parts.1) in
    (n, below, refl))

header_bytes-keeps : (m n s t f g : ℕ) → IfSome (header_bytes m n s t f g) IsAddress
unfolding header_bytes
header_bytes-keeps m n s t f g =
    some_then _ _ (bcd_below minute_limit m n) _ (bcd_below-keeps minute_limit m n) (λ x a.
    some_then _ _ (bcd_below second_limit s t) _ (bcd_below-keeps second_limit s t) (λ y b.
    some_then _ _ (bcd_below fraction_limit f g) _ (bcd_below-keeps fraction_limit f g) (λ z c.
    record {
      minute = a.0;
      second = b.0;
      fraction = c.0;
      is_minute = a.1;
      is_second = b.1;
      is_fraction = c.1;
      are = rw (a.2, b.2, c.2) refl;
    })))

address-keeps : (word : List ℕ) → IfSome (address_bytes word) IsAddress
unfolding address_bytes
address-keeps word = grind (arith, header_bytes-keeps)

bcd_below-digits : (limit n : ℕ) → n < limit → limit ≤ minute_limit
    → bcd_below limit (high_digit (bcd n)) (low_digit (bcd n)) ≡ Some (bcd n)
unfolding bcd_below
bcd_below-digits limit n lt most = grind (arith, nat_tests)

address-reads : (bytes : List ℕ) → IsAddress bytes → address_bytes (address_word bytes) ≡ Some bytes
unfolding address_bytes address_word header_bytes
address-reads bytes h =
    rw (
      h.are,
      bcd_below-digits minute_limit h.minute h.is_minute (omega arith),
      bcd_below-digits second_limit h.second h.is_second (omega arith),
      bcd_below-digits fraction_limit h.fraction h.is_fraction (omega arith),
    ) refl

digit_test : (x : ℕ) → nat_le 33 (48 + x) ≡ true
digit_test x = grind (arith, nat_tests)

plain_bytes : (m s f : ℕ) → IsPlainWord (address_word (m ∷ s ∷ f ∷ []))
unfolding address_word
plain_bytes m s f = plain_word (address_word (m ∷ s ∷ f ∷ [])) (simp digit_test)

pub address-kind : (line : ℕ) → IsKind (address_at line) IsAddress address_word
unfolding address_at
address-kind line = record {
  keeps = λ w. given_keeps _ (address_bytes w) (Address line) (address-keeps w);
  spells = λ bytes fits. record {
    plain =
        subst (λ (bs : List ℕ). IsPlainWord (address_word bs)) (sym fits.are)
        (plain_bytes (bcd fits.minute) (bcd fits.second) (bcd fits.fraction));
    reads = rw (address-reads bytes fits) refl;
  };
}
