use Rattle.std.proofs.Common.{rules}
use Rattle.cd_script.proofs.hex_patch.build_patch.Goals as goal

pub returns : goal.returns
returns c = search rules
