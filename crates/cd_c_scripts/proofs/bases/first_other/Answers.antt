use Rattle.std.proofs.Common.{arith, refl, ◌∙◌, ap, sym}
use Rattle.cd_c_scripts.proofs.BaseLemmas.{other-found, other-passed}
use Rattle.cd_c_scripts.proofs.bases.first_other.Goals as goal

pub loop-line-init : goal.loop-line-init
loop-line-init c = record { within = omega arith; number = omega arith; left = refl }
