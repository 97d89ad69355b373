use Rattle.std.proofs.Common.{rules}
use Rattle.cd_patch.proofs.edits.blocks_spanned.Goals as goal

pub returns-clause-number : goal.returns-clause-number
returns-clause-number c = search rules
