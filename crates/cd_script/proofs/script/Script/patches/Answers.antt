use Rattle.std.proofs.Common.{rules}
use Rattle.cd_script.proofs.script.Script.patches.Goals as goal

pub returns-clause-patches : goal.returns-clause-patches
returns-clause-patches c = search rules
