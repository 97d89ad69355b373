use Rattle.cd_code.proofs.EdcLemmas.{edc_unique}
use Rattle.cd_code.proofs.laws.edc_is_unique.Goals as goal

pub returns : goal.returns
returns c = edc_unique
