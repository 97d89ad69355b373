use Rattle.std.proofs.Common.{rules}
use Rattle.cd_script.specs.Value.{number_at}
use Rattle.cd_script.proofs.value.number_of.Goals as goal

pub returns : goal.returns
unfolding number_at
returns c = search rules
