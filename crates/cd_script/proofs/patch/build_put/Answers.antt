use Rattle.std.proofs.Common.{rules}
use Rattle.cd_script.proofs.patch.build_put.Goals as goal

pub returns : goal.returns
returns c = search rules
