use Rattle.cd_script.proofs.VersionLemmas.{first-stays}
use Rattle.cd_script.proofs.laws.first_stays.Goals as goal

pub returns : goal.returns
returns c = first-stays
