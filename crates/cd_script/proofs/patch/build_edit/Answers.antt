use Rattle.std.proofs.Common.{rules}
use Rattle.cd_script.proofs.patch.build_edit.Goals as goal

pub returns-in-Address : goal.returns-in-Address
returns-in-Address c = search rules
