use Rattle.cd_patch.proofs.ExistenceLemmas.{run-exists}
use Rattle.cd_patch.proofs.laws.sequence_exists.Goals as goal

pub returns : goal.returns
returns c = run-exists
