use Rattle.std.proofs.Common.{arith}
use Rattle.cd_code.proofs.FieldTableLemmas.{IsLogarithm-entry}
use Rattle.cd_code.proofs.field.logarithm.Goals as goal

pub returns : goal.returns
returns c = IsLogarithm-entry c.args.a (omega arith)
