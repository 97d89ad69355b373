use Rattle.cd_patch.proofs.BySectorLemmas.{leaves-one}
use Rattle.cd_patch.proofs.laws.leaves_one.Goals as goal

pub returns : goal.returns
returns c = leaves-one
