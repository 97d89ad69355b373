use Rattle.std.proofs.Common.{◌+◌, ◌∙◌, ap, arith, drop, refl, rules, sym}
use Rattle.std.proofs.lemmas.List.{drop-drop}
use Rattle.std.proofs.lemmas.Slice.{drop-put_mid}
use Rattle.std.proofs.lemmas.Grind.{common_steps}
use Rattle.cd_stream.specs.Adapters.{lent_to}
use Rattle.cd_stream.proofs.adapters.slice_sink.SliceSinkSink.write.Goals as goal

pub returns-then-n-eq0-clause-room : goal.returns-then-n-eq0-clause-room
returns-then-n-eq0-clause-room c = search rules

pub returns-clause-writes : goal.returns-clause-writes
returns-clause-writes c = record {
  bytes = (search rules, search rules, grind (arith, common_steps));
  taken = search rules;
  flushes = refl;
  count = search rules;
  unfinished = search rules;
  flush_may_fail = refl;
  lent = refl;
}

pub returns-clause-room_left : goal.returns-clause-room_left
returns-clause-room_left c = search rules

pub invariant_of-self-2-clause-rest : goal.invariant_of-self-2-clause-rest
invariant_of-self-2-clause-rest c =
    let old = c.args.self.now in
    let n = c.min-n.result in
    drop-put_mid old.used _ old.space.now c.copy_from_slice.new.self (old.used + n) (omega arith)
    old.within (search rules)
    ∙ sym (drop-drop n old.used old.space.now) ∙ ap (drop n) old.rest
    ∙ drop-drop n old.used (lent_to old).now

pub returns-clause-rest : goal.returns-clause-rest
returns-clause-rest c =
    let old = c.args.self.now in
    drop-put_mid old.used _ old.space.now c.copy_from_slice.new.self (old.used + c.min-n.result)
    (omega arith) old.within (search rules)
    ∙ sym (drop-drop c.min-n.result old.used old.space.now)
