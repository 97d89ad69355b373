-- Lemmas about the field: doubling and multiplying are linear.
use Rattle.std.proofs.Common.{◌≡◌, ℕ, zero, suc, ◌-◌, ◌*◌, ◌/◌, ◌%◌, ◌^◌, ◌<◌, ◌≤◌, Bool, true, false, bit_xor, refl, sym, ap, ap₂, ◌∙◌, arith, lit<}
use Rattle.std.specs.Bool.{if◌then◌else◌, ◌==◌}
use Rattle.std.specs.Int.Bits.{xor_zero_l}
use Rattle.std.proofs.lemmas.Nat.{xor_shr, xor_lt}
use Rattle.std.proofs.lemmas.Bool.Decides.{nat_tests}
use Rattle.cd_code.specs.Field.{double, power, product, product_of_bits}
use Rattle.cd_code.proofs.general.Tables.{bounded_below, equal_below}
use Rattle.cd_code.proofs.general.Xor.{half_below, linear_at_bits, xor_half, xor_low, xor_twofold, xor_swap}

-- the polynomial of the field, which is added to a doubled byte whose top bit was set; otherwise 0
abbrev pub lift : ℕ → ℕ
lift zero = 0
lift (suc n) = 285

pub double-lift : (b : ℕ) → b < 256 → double b ≡ bit_xor (b * 2) (lift (b / 128))
unfolding double
double-lift = equal_below double (λ b. bit_xor (b * 2) (lift (b / 128))) 256 refl

pub double-lt : (b : ℕ) → b < 256 → double b < 256
unfolding double
double-lt = bounded_below double 256 256 refl

-- doubling is linear
pub double-xor : (a b : ℕ) → a < 256 → b < 256
    → double (bit_xor a b) ≡ bit_xor (double a) (double b)
double-xor a b ha hb =
    let whole = double-lift (bit_xor a b) (xor_lt 8 a b ha hb) in
    let tops : lift (bit_xor a b / 128) ≡ bit_xor (lift (a / 128)) (lift (b / 128)) =
    ap lift (xor_shr a b 7) ∙ linear_at_bits lift refl (a / 128) (b / 128) (omega arith) (omega arith) in
    whole ∙ ap₂ bit_xor (xor_twofold a b) tops
    ∙ xor_swap (a * 2) (b * 2) (lift (a / 128)) (lift (b / 128))
    ∙ sym (ap₂ bit_xor (double-lift a ha) (double-lift b hb))

-- the term of a product at one bit
abbrev pub term : ℕ → ℕ → ℕ
term bit a = if bit == 1 then a else 0

term-lt : (x a : ℕ) → a < 256 → term x a < 256
term-lt x a h = grind (arith, nat_tests)

term-zero : (x : ℕ) → term x 0 ≡ 0
term-zero x = grind (arith, nat_tests)

pub double-zero : double 0 ≡ 0
unfolding double
double-zero = refl

double-term : (x a : ℕ) → term x (double a) ≡ double (term x a)
double-term x a = by_test (x == 1)
  where
    by_test : (t : Bool) → (if t then double a else 0) ≡ double (if t then a else 0)
    by_test true = refl
    by_test false = sym double-zero

-- a product is linear in its second factor
product_of_bits-xor : (n a b c : ℕ)
    → product_of_bits n a (bit_xor b c) ≡ bit_xor (product_of_bits n a b) (product_of_bits n a c)
product_of_bits-xor zero a b c = refl
product_of_bits-xor (suc n) a b c =
    ap₂ bit_xor
    (ap (product_of_bits n (double a)) (xor_half b c)
    ∙ product_of_bits-xor n (double a) (b / 2) (c / 2))
    (ap (λ z. term z a) (xor_low b c)
    ∙ linear_at_bits (λ z. term z a) refl (b % 2) (c % 2) (omega arith) (omega arith))
    ∙ xor_swap (product_of_bits n (double a) (b / 2)) (product_of_bits n (double a) (c / 2))
    (term (b % 2) a) (term (c % 2) a)

pub product-xor : (a b c : ℕ) → product a (bit_xor b c) ≡ bit_xor (product a b) (product a c)
unfolding product
product-xor a b c = product_of_bits-xor 8 a b c

product_of_bits-lt : (n a b : ℕ) → a < 256 → product_of_bits n a b < 256
product_of_bits-lt zero a b h = lit< tt
product_of_bits-lt (suc n) a b h =
    xor_lt 8 (product_of_bits n (double a) (b / 2)) (term (b % 2) a)
    (product_of_bits-lt n (double a) (b / 2) (double-lt a h)) (term-lt (b % 2) a h)

pub product-lt : (a b : ℕ) → a < 256 → product a b < 256
unfolding product
product-lt a b h = product_of_bits-lt 8 a b h

product_of_bits-double : (n a b : ℕ) → a < 256
    → product_of_bits n (double a) b ≡ double (product_of_bits n a b)
product_of_bits-double zero a b h = sym double-zero
product_of_bits-double (suc n) a b h =
    ap₂ bit_xor (product_of_bits-double n (double a) (b / 2) (double-lt a h))
    (double-term (b % 2) a)
    ∙ sym (double-xor (product_of_bits n (double a) (b / 2)) (term (b % 2) a)
    (product_of_bits-lt n (double a) (b / 2) (double-lt a h)) (term-lt (b % 2) a h))

-- doubling a factor doubles the product
pub product-double : (a b : ℕ) → a < 256 → product (double a) b ≡ double (product a b)
unfolding product
product-double a b h = product_of_bits-double 8 a b h

pub product-one : (b : ℕ) → b < 256 → product 1 b ≡ b
unfolding product double
product-one = equal_below (product 1) (λ b. b) 256 refl

-- n doublings
abbrev pub doubles : ℕ → ℕ → ℕ
doubles zero b = b
doubles (suc n) b = double (doubles n b)

pub power-lt : (n : ℕ) → power n < 256
power-lt zero = lit< tt
power-lt (suc n) = double-lt (power n) (power-lt n)

-- multiplying by a power of alpha is doubling that many times
pub product-power : (n b : ℕ) → b < 256 → product (power n) b ≡ doubles n b
product-power zero b h = product-one b h
product-power (suc n) b h =
    product-double (power n) b (power-lt n) ∙ ap double (product-power n b h)

pub power-doubles : (n : ℕ) → power n ≡ doubles n 1
power-doubles zero = refl
power-doubles (suc n) = ap double (power-doubles n)

pub product-power_suc : (n b : ℕ) → product (power (suc n)) b ≡ double (product (power n) b)
product-power_suc n b = product-double (power n) b (power-lt n)

-- 3 and F4 are inverse
pub third_tripled : (b : ℕ) → b < 256 → bit_xor (double (product 244 b)) (product 244 b) ≡ b
unfolding product double
third_tripled =
    equal_below (λ b. bit_xor (double (product 244 b)) (product 244 b)) (λ b. b) 256 refl

pub tripled_third : (b : ℕ) → b < 256 → product 244 (bit_xor (double b) b) ≡ b
unfolding product double
tripled_third = equal_below (λ b. product 244 (bit_xor (double b) b)) (λ b. b) 256 refl

-- one more bit of fuel changes nothing if the factor has no bit there
product_of_bits-fuel : (n a b : ℕ) → b < 2 ^ n → product_of_bits (suc n) a b ≡ product_of_bits n a b
product_of_bits-fuel zero a b h =
    let e : b ≡ 0 = omega arith in
    ap (λ z. bit_xor (product_of_bits zero (double a) (z / 2)) (term (z % 2) a)) e
product_of_bits-fuel (suc n) a b h =
    ap (λ z. bit_xor z (term (b % 2) a))
    (product_of_bits-fuel n (double a) (b / 2) (half_below n b h))

pub product-by_bits : (a b : ℕ) → b < 256
    → product a b ≡ bit_xor (product (double a) (b / 2)) (term (b % 2) a)
unfolding product
product-by_bits a b h =
    ap (λ z. bit_xor z (term (b % 2) a))
    (sym (product_of_bits-fuel 7 (double a) (b / 2) (omega arith)))

-- the two cases of doubling
pub double-below : (b : ℕ) → b < 128 → double b ≡ b * 2
unfolding double
double-below b h = grind (arith, nat_tests)

pub double-above : (b : ℕ) → 128 ≤ b → double b ≡ bit_xor (b * 2 - 256) 29
unfolding double
double-above b h = grind (arith, nat_tests)

product_of_bits-zero_left : (n b : ℕ) → product_of_bits n 0 b ≡ 0
product_of_bits-zero_left zero b = refl
product_of_bits-zero_left (suc n) b =
    ap (λ z. bit_xor (product_of_bits n z (b / 2)) (term (b % 2) 0)) double-zero
    ∙ ap (λ z. bit_xor z (term (b % 2) 0)) (product_of_bits-zero_left n (b / 2))
    ∙ xor_zero_l (term (b % 2) 0) ∙ term-zero (b % 2)

pub product-zero_left : (b : ℕ) → product 0 b ≡ 0
unfolding product
product-zero_left b = product_of_bits-zero_left 8 b

pub product-zero_right : (a : ℕ) → product a 0 ≡ 0
unfolding product
product-zero_right a = refl
