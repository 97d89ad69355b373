use Rattle.std.proofs.Common.{refl, arith, ◌∙◌}
use Rattle.cd_c_scripts.proofs.IndexLemmas.{Index-entries, Index-headless, Indexing-start}
use Rattle.cd_c_scripts.proofs.IndexSteps.{Index-step, Index-stop, inside_is, size_is}
use Rattle.cd_c_scripts.proofs.entries.index_script.Goals as goal

pub loop-line-init : goal.loop-line-init
loop-line-init c = record {
  short = c.requires;
  within = omega arith;
  number = omega arith;
  count = omega arith;
  size = refl;
  indexing = Indexing-start c.args.text.now c.args.entries.now;
}

pub returns-in-Err-clause-fault : goal.returns-in-Err-clause-fault
returns-in-Err-clause-fault c =
    let l = c.loop-line in
    let size = c.in-Some.line.size in
    let long =
    size_is c.args.text.now c.rest_of.result.now l.start size c.in-Some.line.taken
    c.rest_of.ensures c.in-Some.ensures.order c.in-Some.ensures.within in
    Index-stop c.index_line.new.entries l.invariant.indexing size c.in-Some.line.taken
    (rw c.rest_of.ensures at c.in-Some.ensures.some) long l.invariant.within
    (rw c.rest_of-rest.ensures at c.index_line.ensures) c.in-Err.fault c.in-Err.is

pub loop-line-preserved : goal.loop-line-preserved
loop-line-preserved c =
    let l = c.loop-line in
    let size = c.in-Some.line.size in
    let step =
    Index-step c.index_line.new.entries l.invariant.indexing size c.in-Some.line.taken
    (rw c.rest_of.ensures at c.in-Some.ensures.some)
    (size_is c.args.text.now c.rest_of.result.now l.start size c.in-Some.line.taken
    c.rest_of.ensures c.in-Some.ensures.order c.in-Some.ensures.within)
    l.invariant.within
    (rw c.rest_of-rest.ensures at c.index_line.ensures) c.in-Ok.next c.in-Ok.is in
    record {
      short = l.invariant.short;
      within =
          inside_is c.args.text.now c.rest_of.result.now l.start c.in-Some.line.taken
          c.rest_of.ensures l.invariant.within c.in-Some.ensures.within;
      number = omega (arith, l.invariant.number, c.in-Some.ensures.goes);
      count = omega (arith, step.few, l.invariant.count);
      size = step.size ∙ l.invariant.size;
      indexing = step.indexing;
    }

pub returns-in_default-version-clause-fault : goal.returns-in_default-version-clause-fault
returns-in_default-version-clause-fault c =
    Index-headless c.loop-line.invariant.indexing
    (rw c.rest_of.ensures at c.in_default.ensures.none) c.in_default-version.is

pub returns-clause-indexed : goal.returns-clause-indexed
returns-clause-indexed c =
    let l = c.loop-line in
    Index-entries l.invariant.indexing c.in-Some-version.named
    c.put_first_in_order.new.entries c.put_first_in_order.ensures.size
    (rw c.rest_of.ensures at c.in_default.ensures.none) c.in-Some-version.is
    (omega (arith, l.invariant.number, l.invariant.within, l.invariant.short))
    (λ room u ps rises below entries.
    c.put_first_in_order.ensures.order room c.args.text.now u ps rises below entries)
