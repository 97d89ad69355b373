use Rattle.cd_code.proofs.FieldTableLemmas.{IsExponent-entry}
use Rattle.cd_code.proofs.field.exponent.Goals as goal

pub returns : goal.returns
returns c = IsExponent-entry c.args.n c.requires
