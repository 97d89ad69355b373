-- An address gives back its block.
use Rattle.std.proofs.Common.{◌≡◌, ℕ, ◌+◌, ◌-◌, ◌*◌, ◌/◌, ◌%◌, ◌<◌, ◌≤◌, Bool, true, false, List, [], ◌∷◌, get_or, Option, Some, None, arith, inl, inr, refl, rules, ◌∙◌, sym, ap}
use Rattle.std.proofs.lemmas.Bool.{cases_lt}
use Rattle.cd_address.specs.Address.{address, bcd, bcd_address}
use Rattle.cd_c.specs.Blocks.{bcd_value}

-- two decimal digits give back their number
bcd-value : (n : ℕ) → n < 100 → bcd_value (bcd n) ≡ n
bcd-value n few = omega (arith, few)

-- the fractions that an address stands for
abbrev pub fractions : List ℕ → ℕ
fractions bytes =
    (bcd_value (get_or bytes 0 0) * 60 + bcd_value (get_or bytes 1 0)) * 75
    + bcd_value (get_or bytes 2 0)

parts : (t : ℕ) → (t / 4500 * 60 + t / 75 % 60) * 75 + t % 75 ≡ t
parts t = omega arith

fractions-of : (t : ℕ) → t < 450000 → fractions (bcd_address t) ≡ t
fractions-of t few =
    rw (
      bcd-value (t / 4500) (omega (arith, few)),
      bcd-value (t / 75 % 60) (omega arith),
      bcd-value (t % 75) (omega arith),
    ) (parts t)

none-past : (b : ℕ) → 449849 < b → None ≡ address b
unfolding address
none-past b h = search rules

some-to : (b : ℕ) → b ≤ 449849 → Some (bcd_address (b + 150)) ≡ address b
unfolding address
some-to b h = search rules

-- an address is that of the block which its fractions give, of which block 0 has 150
pub address-back : (b : ℕ) (bytes : List ℕ) → address b ≡ Some bytes → fractions bytes ≡ b + 150
address-back b bytes is = elim (cases_lt 449849 b) [
  | inl past ↦ absurd (let none : None ≡ Some bytes = none-past b past ∙ is in cc)
  | inr few ↦
      let whole : Some (bcd_address (b + 150)) ≡ Some bytes = some-to b few ∙ is in
      let same : bcd_address (b + 150) ≡ bytes = cc in
      ap fractions (sym same) ∙ fractions-of (b + 150) (omega (arith, few))
]

-- the block with an address is the one that its fractions give
pub block-found : (b found : ℕ) (bytes : List ℕ) → found ≡ fractions bytes - 150
    → address b ≡ Some bytes → b ≡ found
block-found b found bytes is h = omega (arith, is, address-back b bytes h)
