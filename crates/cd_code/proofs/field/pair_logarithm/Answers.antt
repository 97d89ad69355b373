use Rattle.cd_code.proofs.FieldTableLemmas.{pairs-lt, pairs-power}
use Rattle.cd_code.proofs.field.pair_logarithm.Goals as goal

pub returns-clause-below : goal.returns-clause-below
returns-clause-below c = pairs-lt c.args.weight c.requires.below

pub returns-clause-power : goal.returns-clause-power
returns-clause-power c = pairs-power c.args.weight c.requires.some c.requires.below
