use Rattle.std.proofs.Common.{◌≡◌, ◌-◌, bit_xor, arith, refl}
use Rattle.cd_code.specs.Field.{power, product}
use Rattle.cd_code.proofs.FieldTableLemmas.{product-pair}
use Rattle.cd_code.proofs.SyndromeLemmas.{SameSums-change, pair-nonzero}
use Rattle.cd_code.proofs.syndrome.pair_change.Goals as goal

-- the first byte of the pair, as in the definition
first_is : (c : goal.After-exponent-first)
    → c.exponent-first.result
    ≡ product 244 (bit_xor (product (power (c.args.len - 1 - c.args.place)) c.args.d) c.args.d)
first_is c =
    product-pair c.pair_logarithm.result (c.args.len - 1 - c.args.place) c.args.d c.logarithm.result
    c.exponent-first.result c.pair_logarithm.ensures.power c.pair_logarithm.ensures.below
    (omega arith) c.logarithm.ensures c.exponent-first.ensures

pub returns-clause-balances : goal.returns-clause-balances
returns-clause-balances c = record {
  keeps = λ v _ long.
      SameSums-change v c.args.len c.args.place c.args.d
      (product (power (c.args.len - 1 - c.args.place)) c.args.d) c.exponent-first.result
      long (omega arith) (omega arith) refl (first_is c);
}

pub returns-clause-nonzero : goal.returns-clause-nonzero
returns-clause-nonzero c = λ some.
    pair-nonzero (c.args.len - 1 - c.args.place) c.args.d
    (product (power (c.args.len - 1 - c.args.place)) c.args.d) c.exponent-first.result
    (omega arith) (omega arith) (omega arith) (omega arith) refl (first_is c)
