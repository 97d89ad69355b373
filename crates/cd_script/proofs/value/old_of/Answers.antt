use Rattle.std.proofs.Common.{rules}
use Rattle.cd_script.specs.Value.{old_at}
use Rattle.cd_script.proofs.value.old_of.Goals as goal

pub returns : goal.returns
unfolding old_at
returns c = search rules
