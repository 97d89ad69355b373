use Rattle.std.proofs.Common.{rules}
use Rattle.cd_patch.proofs.effect.write_address.Goals as goal

pub returns-then-carry : goal.returns-then-carry
returns-then-carry c = search rules
