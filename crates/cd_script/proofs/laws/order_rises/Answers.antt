use Rattle.cd_script.proofs.OrderLemmas.{order-rises}
use Rattle.cd_script.proofs.laws.order_rises.Goals as goal

pub returns : goal.returns
returns c = order-rises
