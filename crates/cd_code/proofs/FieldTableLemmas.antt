-- The tables of powers and logarithms: one computed test over each table, and the rule at each
-- entry.
use Rattle.std.proofs.Common.{◌≡◌, ℕ, zero, suc, ◌+◌, ◌-◌, ◌*◌, ◌/◌, ◌%◌, ◌<◌, ◌≤◌, inl, inr, bit_xor, get_or, refl, sym, ap, ap₂, ◌∙◌, arith, lit<}
use Rattle.std.proofs.lemmas.Bool.{cases_lt}
use Rattle.std.proofs.lemmas.Nat.{xor_lt}
use Rattle.cd_code.specs.Field.{IsExponent, IsLogarithm, double, power, product}
use Rattle.cd_code.specs.declared.field_tables.TheConstants.{EXPONENTS, LOGARITHMS, PAIRS}
use Rattle.cd_code.proofs.general.Tables.{bounded_below, equal_below}
use Rattle.cd_code.proofs.FieldLemmas.{doubles, power-lt, power-doubles, product-lt, product-power, product-xor, product-zero_left, product-zero_right}

-- each entry is the one before it, doubled
exponents-next : (n : ℕ) → n < 509 → get_or EXPONENTS (n + 1) 0 ≡ double (get_or EXPONENTS n 0)
unfolding double
exponents-next =
    equal_below (λ n. get_or EXPONENTS (n + 1) 0) (λ n. double (get_or EXPONENTS n 0)) 509 refl

exponents-power : (n : ℕ) → n < 510 → get_or EXPONENTS n 0 ≡ power n
exponents-power zero h = refl
exponents-power (suc n) h =
    let next : n + 1 ≡ suc n = omega arith in
    ap (λ k. get_or EXPONENTS k 0) (sym next) ∙ exponents-next n (omega arith)
    ∙ ap double (exponents-power n (omega arith))

exponents-none : (n : ℕ) → n < 511 → get_or EXPONENTS (n + 510) 0 ≡ 0
exponents-none = equal_below (λ n. get_or EXPONENTS (n + 510) 0) (λ _. 0) 511 refl

logarithms-lt : (a : ℕ) → 0 < a → a < 256 → get_or LOGARITHMS a 0 < 255
logarithms-lt a some below =
    let e : a - 1 + 1 ≡ a = omega arith in
    rw e at (bounded_below (λ k. get_or LOGARITHMS (k + 1) 0) 255 255 refl (a - 1) (omega arith))

-- each element but 0 has its logarithm
power-logarithms : (a : ℕ) → 0 < a → a < 256 → power (get_or LOGARITHMS a 0) ≡ a
power-logarithms a some below =
    let e : a - 1 + 1 ≡ a = omega arith in
    let low = logarithms-lt a some below in
    let entry =
    equal_below (λ n. get_or EXPONENTS (get_or LOGARITHMS (n + 1) 0) 0) (λ n. n + 1) 255 refl
    (a - 1) (omega arith) in
    sym (exponents-power (get_or LOGARITHMS a 0) (omega arith)) ∙ rw e at entry

pub IsExponent-entry : (n : ℕ) → n ≤ 1020 → IsExponent n (get_or EXPONENTS n 0)
IsExponent-entry n h = record {
  power = exponents-power n;
  none = λ past.
      let e : n - 510 + 510 ≡ n = omega arith in
      rw e at (exponents-none (n - 510) (omega arith));
}

pub IsLogarithm-entry : (a : ℕ) → a < 256 → IsLogarithm a (get_or LOGARITHMS a 0)
IsLogarithm-entry a h = record {
  none = λ e. ap (λ k. get_or LOGARITHMS k 0) e;
  below = λ some. logarithms-lt a some h;
  power = λ some. power-logarithms a some h;
}

doubles-doubles : (m n b : ℕ) → doubles m (doubles n b) ≡ doubles (m + n) b
doubles-doubles zero n b = let e : n ≡ zero + n = omega arith in ap (λ k. doubles k b) e
doubles-doubles (suc m) n b =
    let e : suc (m + n) ≡ suc m + n = omega arith in
    ap double (doubles-doubles m n b) ∙ ap (λ k. doubles k b) e

product-swap : (m n b : ℕ) → b < 256
    → product (power m) (product (power n) b) ≡ product (power n) (product (power m) b)
product-swap m n b h =
    let turn : m + n ≡ n + m = omega arith in
    ap (product (power m)) (product-power n b h)
    ∙ product-power m (doubles n b) (rw (← product-power n b h) (product-lt (power n) b (power-lt n)))
    ∙ doubles-doubles m n b ∙ ap (λ k. doubles k b) turn ∙ sym (doubles-doubles n m b)
    ∙ sym (ap (product (power n)) (product-power m b h)
    ∙ product-power n (doubles m b)
    (rw (← product-power m b h) (product-lt (power m) b (power-lt m))))

-- a product of powers
pub product-powers : (m n : ℕ) → product (power m) (power n) ≡ power (m + n)
product-powers m n =
    product-power m (power n) (power-lt n) ∙ ap (doubles m) (power-doubles n)
    ∙ doubles-doubles m n 1 ∙ sym (power-doubles (m + n))

-- a product by logarithms
pub product-logarithms : (a b m n r : ℕ) → IsLogarithm a m → IsLogarithm b n → IsExponent (m + n) r
    → r ≡ product a b
product-logarithms zero b m n r one two e =
    let none = one.none refl in
    e.none (omega arith) ∙ sym (product-zero_left b)
product-logarithms (suc a) zero m n r one two e =
    let none = two.none refl in
    e.none (omega arith) ∙ sym (product-zero_right (suc a))
product-logarithms (suc a) (suc b) m n r one two e =
    let below = one.below (omega arith) in
    let less = two.below (omega arith) in
    e.power (omega arith) ∙ sym (product-powers m n)
    ∙ ap₂ product (one.power (omega arith)) (two.power (omega arith))

-- multiplying by a sum of powers and then by F4 is multiplying by one power, if that power is the
-- product of F4 and the sum
pub product-pair : (k m d n r : ℕ) → power k ≡ product 244 (bit_xor (power m) 1) → k < 255
    → d < 256 → IsLogarithm d n → IsExponent (k + n) r
    → r ≡ product 244 (bit_xor (product (power m) d) d)
product-pair k m d n r rule below byte log e = elim (cases_lt 0 d) [
  | inl some ↦
      let sum = bit_xor (power m) 1 in
      let sum_lt : sum < 256 = xor_lt 8 (power m) 1 (power-lt m) (lit< tt) in
      let is : power n ≡ d = log.power some in
      let less = log.below some in
      let four : power 230 ≡ 244 = sym (exponents-power 230 (lit< tt)) ∙ refl in
      let turned : product (power n) (product (power 230) sum)
      ≡ product (power 230) (product (power n) sum) =
      product-swap n 230 sum sum_lt in
      let inner : product (power n) sum ≡ bit_xor (product (power m) d) d =
      product-xor (power n) (power m) 1
      ∙ ap₂ bit_xor (product-powers n m ∙ (let z : n + m ≡ m + n = omega arith in ap power z)
      ∙ sym (product-powers m n) ∙ ap (product (power m)) is)
      (product-power n 1 (lit< tt) ∙ sym (power-doubles n) ∙ is) in
      let z : k + n ≡ n + k = omega arith in
      e.power (omega arith) ∙ ap power z ∙ sym (product-powers n k)
      ∙ ap (product (power n)) (rule ∙ ap (λ q. product q sum) (sym four))
      ∙ turned ∙ ap₂ product four inner
  | inr over ↦
      let none : d ≡ 0 = omega arith in
      let past = log.none none in
      e.none (omega arith)
      ∙ sym (ap (λ z. product 244 (bit_xor (product (power m) z) z)) none
      ∙ ap (λ z. product 244 (bit_xor z 0)) (product-zero_right (power m)) ∙ product-zero_right 244)
]

pub pairs-lt : (m : ℕ) → m < 255 → get_or PAIRS m 0 < 255
pairs-lt = bounded_below (λ k. get_or PAIRS k 0) 255 255 refl

pub pairs-power : (m : ℕ) → 0 < m → m < 255
    → power (get_or PAIRS m 0) ≡ product 244 (bit_xor (power m) 1)
unfolding product double
pairs-power m some below =
    let e : m - 1 + 1 ≡ m = omega arith in
    let entry = equal_below (λ k. get_or EXPONENTS (get_or PAIRS (k + 1) 0) 0)
    (λ k. product 244 (bit_xor (get_or EXPONENTS (k + 1) 0) 1)) 254 refl (m - 1) (omega arith) in
    let low = pairs-lt m below in
    sym (exponents-power (get_or PAIRS m 0) (omega arith)) ∙ rw e at entry
    ∙ ap (λ z. product 244 (bit_xor z 1)) (exponents-power m (omega arith))

-- the order of alpha
power_order : power 255 ≡ 1
power_order = sym (exponents-power 255 (lit< tt)) ∙ refl

power-turn : (n : ℕ) → power (255 + n) ≡ power n
power-turn n =
    sym (product-powers 255 n) ∙ ap (λ z. product z (power n)) power_order
    ∙ product-power 0 (power n) (power-lt n)

power-turns : (k r : ℕ) → power (k * 255 + r) ≡ power r
power-turns zero r = let e : zero * 255 + r ≡ r = omega arith in ap power e
power-turns (suc k) r =
    let e : suc k * 255 + r ≡ 255 + (k * 255 + r) = omega arith in
    ap power e ∙ power-turn (k * 255 + r) ∙ power-turns k r

pub power-mod : (n : ℕ) → power (n % 255) ≡ power n
power-mod n =
    let e : n / 255 * 255 + n % 255 ≡ n = omega arith in
    sym (power-turns (n / 255) (n % 255)) ∙ ap power e

-- no power of alpha below the 255th, except the 0th, is 1, since each has its own logarithm
power-one : (n : ℕ) → 0 < n → n < 255 → power n ≡ 1 → ⊥
power-one n some below one =
    let own = equal_below (λ k. get_or LOGARITHMS (get_or EXPONENTS k 0) 0) (λ k. k) 255 refl
    n below in
    let none : n ≡ 0 =
    sym own ∙ ap (λ z. get_or LOGARITHMS z 0) (exponents-power n (omega arith) ∙ one) in
    omega arith

-- an element other than 0 is not itself again after n doublings, for n from 1 to 254
pub product-power_moves : (n d : ℕ) → 0 < n → n < 255 → 0 < d → d < 256 → product (power n) d ≡ d
    → ⊥
product-power_moves n d some below nonzero byte same =
    let m = get_or LOGARITHMS d 0 in
    let m_lt : m < 255 = logarithms-lt d nonzero byte in
    let is : power m ≡ d = power-logarithms d nonzero byte in
    let moved : power (n + m) ≡ power m =
    sym (product-powers n m) ∙ ap (product (power n)) is ∙ same ∙ sym is in
    let back : 255 - m + (n + m) ≡ 255 + n = omega arith in
    let whole : 255 - m + m ≡ 255 = omega arith in
    power-one n some below
    (sym (power-turn n) ∙ ap power (sym back) ∙ sym (product-powers (255 - m) (n + m))
    ∙ ap (product (power (255 - m))) moved
    ∙ product-powers (255 - m) m ∙ ap power whole ∙ power_order)

-- and it is not itself doubled once after n doublings, for n from 2 to 255
pub product-power_moves_on : (n d : ℕ) → 1 < n → n < 256 → 0 < d → d < 256
    → product (power n) d ≡ double d → ⊥
product-power_moves_on n d some below nonzero byte same =
    let e : 254 + n ≡ 255 + (n - 1) = omega arith in
    let turned : doubles 254 (doubles n d) ≡ product (power (n - 1)) d =
    doubles-doubles 254 n d ∙ sym (product-power (254 + n) d byte) ∙ ap (λ k. product (power k) d) e
    ∙ ap (λ z. product z d) (power-turn (n - 1)) in
    let round : doubles 254 (double d) ≡ d =
    doubles-doubles 254 1 d ∙ sym (product-power 255 d byte) ∙ ap (λ z. product z d) power_order
    ∙ product-power 0 d byte in
    product-power_moves (n - 1) d (omega arith) (omega arith) nonzero byte
    (sym turned ∙ ap (doubles 254) (sym (product-power n d byte) ∙ same) ∙ round)
