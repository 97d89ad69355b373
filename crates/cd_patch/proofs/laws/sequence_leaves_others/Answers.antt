use Rattle.cd_patch.proofs.BySectorLemmas.{run-leaves_others}
use Rattle.cd_patch.proofs.laws.sequence_leaves_others.Goals as goal

pub returns : goal.returns
returns c = run-leaves_others
