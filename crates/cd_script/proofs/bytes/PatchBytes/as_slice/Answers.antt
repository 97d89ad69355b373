use Rattle.std.proofs.Common.{rules}
use Rattle.cd_script.proofs.bytes.PatchBytes.as_slice.Goals as goal

pub returns : goal.returns
returns c = search rules
