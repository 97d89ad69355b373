use Rattle.std.proofs.Common.{◌∙◌, arith}
use Rattle.cd_code.proofs.FieldTableLemmas.{power-mod}
use Rattle.cd_code.proofs.field.alpha_power.Goals as goal

pub returns : goal.returns
returns c = c.exponent.ensures.power (omega arith) ∙ power-mod c.args.n
