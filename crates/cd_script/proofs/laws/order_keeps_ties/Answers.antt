use Rattle.cd_script.proofs.OrderLemmas.{filter-order}
use Rattle.cd_script.proofs.laws.order_keeps_ties.Goals as goal

pub returns : goal.returns
returns c = filter-order
