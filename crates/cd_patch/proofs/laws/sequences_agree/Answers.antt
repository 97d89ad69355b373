use Rattle.cd_patch.proofs.AgreeLemmas.{runs-agree}
use Rattle.cd_patch.proofs.laws.sequences_agree.Goals as goal

pub returns : goal.returns
returns c = runs-agree
