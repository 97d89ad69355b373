use Rattle.cd_code.proofs.FieldTableLemmas.{product-logarithms}
use Rattle.cd_code.proofs.field.times.Goals as goal

pub returns : goal.returns
returns c =
    product-logarithms c.args.a c.args.b c.logarithm.result c.logarithm-2.result c.exponent.result
    c.logarithm.ensures c.logarithm-2.ensures c.exponent.ensures
