use Rattle.cd_c_scripts.proofs.OrderedLemmas.{sorted_entries}
use Rattle.cd_c_scripts.proofs.entries.put_in_order.Goals as goal

pub returns-clause-order : goal.returns-clause-order
returns-clause-order c = λ text version ps lines below entries.
    sorted_entries text version c.args.entries.now c.sort.new.entries ps lines below entries
    c.sort.ensures.permutation c.sort.ensures.sorted
