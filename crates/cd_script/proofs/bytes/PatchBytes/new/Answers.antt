use Rattle.std.proofs.Common.{refl}
use Rattle.cd_script.proofs.bytes.PatchBytes.new.Goals as goal

pub returns : goal.returns
returns c = refl
