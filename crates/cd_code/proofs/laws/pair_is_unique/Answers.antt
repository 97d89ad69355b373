use Rattle.cd_code.proofs.SyndromeLemmas.{pair_unique}
use Rattle.cd_code.proofs.laws.pair_is_unique.Goals as goal

pub returns : goal.returns
returns c = pair_unique
