use Rattle.std.proofs.Common.{rules}
use Rattle.cd_image.proofs.patch_log.finish_log.Goals as goal

pub returns : goal.returns
returns g c = search rules
