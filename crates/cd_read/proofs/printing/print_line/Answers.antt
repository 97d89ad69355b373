use Rattle.cd_read.proofs.PrintingLemmas.{PrintsLine-cut, PrintsLine-whole}
use Rattle.cd_read.proofs.printing.print_line.Goals as goal

pub returns-in_err-write_all-clause-line : goal.returns-in_err-write_all-clause-line
returns-in_err-write_all-clause-line g c =
    PrintsLine-cut c.args.line.now _ _ _ c.in_err-write_all.ensures

pub returns-clause-line : goal.returns-clause-line
returns-clause-line g c =
    PrintsLine-whole c.args.line.now _ _ (g.O.Sink.seen c.write_all.new.out) _ c.finish.result
    c.in_ok-write_all.ensures c.finish.ensures

pub returns-clause-count : goal.returns-clause-count
returns-clause-count g c = rw (← c.in_ok-write_all.ensures.count) c.finish.ensures.count
