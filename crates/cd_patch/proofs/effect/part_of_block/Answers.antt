use Rattle.std.proofs.Common.{rules}
use Rattle.cd_patch.proofs.effect.part_of_block.Goals as goal

pub returns : goal.returns
returns c = search rules
