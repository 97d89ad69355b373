use Rattle.cd_code.proofs.FieldLemmas.{product-by_bits, product-zero_right}
use Rattle.cd_code.proofs.laws.product_goes_by_bits.Goals as goal

pub returns-clause-by_bits : goal.returns-clause-by_bits
returns-clause-by_bits c = λ a b _ below. product-by_bits a b below

pub returns-clause-none : goal.returns-clause-none
returns-clause-none c = product-zero_right
