use Rattle.std.proofs.Common.{rules}
use Rattle.cd_patch.proofs.effect.write_user.Goals as goal

pub returns-then-carry-clause-made : goal.returns-then-carry-clause-made
returns-then-carry-clause-made c = search rules
