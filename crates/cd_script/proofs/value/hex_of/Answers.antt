use Rattle.std.proofs.Common.{rules}
use Rattle.cd_script.specs.Value.{hex_at}
use Rattle.cd_script.proofs.value.hex_of.Goals as goal

pub returns : goal.returns
unfolding hex_at
returns c = search rules
