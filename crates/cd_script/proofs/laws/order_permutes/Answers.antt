use Rattle.cd_script.proofs.OrderLemmas.{order-permutes}
use Rattle.cd_script.proofs.laws.order_permutes.Goals as goal

pub returns : goal.returns
returns c = order-permutes
