use Rattle.std.proofs.Common.{sym, subst, arith, take_at}
use Rattle.std.proofs.lemmas.List.{length-take-le}
use Rattle.cd_script.specs.Order.{order}
use Rattle.cd_c_scripts.specs.Entries.{AreEntries}
use Rattle.cd_c_scripts.proofs.entries.put_first_in_order.Goals as goal

pub returns-then-count-entries-clause-order : goal.returns-then-count-entries-clause-order
returns-then-count-entries-clause-order c = λ room text version ps rises below entries.
    subst (λ l. AreEntries text version 0 l (order ps))
    (sym (take_at c.put_in_order.new.entries _ c.args.count
    (omega (arith, c.put_in_order.ensures.size, length-take-le c.args.count c.args.entries.now room))))
    (c.put_in_order.ensures.order text version ps rises below entries)
