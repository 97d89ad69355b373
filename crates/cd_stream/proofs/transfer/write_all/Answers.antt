use Rattle.std.proofs.Common.{◌≡◌, ◌-◌, ◌≤◌, length, take, arith, subst, ◌∙◌}
use Rattle.cd_stream.specs.Transfer.{Takes}
use Rattle.std.proofs.lemmas.List.{take_all}
use Rattle.cd_stream.proofs.TransferLemmas.{Appends-sent, Takes-front, length-after}
use Rattle.cd_stream.proofs.transfer.write_all.Goals as goal

pub loop-sent-preserved : goal.loop-sent-preserved
loop-sent-preserved g c =
    let before = c.loop-sent.invariant in
    let went = c.in_ok-sent.ensures.bytes in
    let few : c.in_ok-sent.field-0 ≤ length c.args.bytes.now - c.loop-sent.sent =
    omega (arith, went.1, length-after c.loop-sent.sent c.args.bytes.now) in
    record {
      within = omega (arith, few, c.loop-sent-test.true);
      appended = Appends-sent _ _ _ c.loop-sent.sent c.in_ok-sent.field-0 c.args.bytes.now few
          before.appended went.2;
      taken = omega (arith, c.in_ok-sent.ensures.taken, before.taken);
      flushes = c.in_ok-sent.ensures.flushes ∙ before.flushes;
      same = c.in_ok-sent.ensures.flush_may_fail ∙ before.same;
      lent = c.in_ok-sent.ensures.lent ∙ before.lent;
      counted = c.in_ok-sent.ensures.count ∙ before.counted;
      unfinished = λ _. c.in_ok-sent.ensures.unfinished;
    }

pub returns : goal.returns
returns g c =
    let all : take c.loop-sent.sent c.args.bytes.now ≡ c.args.bytes.now =
    take_all c.loop-sent.sent c.args.bytes.now (omega arith) in
    record {
      bytes = rw all at c.loop-sent.invariant.appended;
      taken = subst (Takes (g.O.Sink.seen c.args.out.now) (g.O.Sink.seen c.loop-sent.out)) all
          (Takes-front _ _ c.loop-sent.sent c.args.bytes.now c.loop-sent.invariant.within
          c.loop-sent.invariant.appended c.loop-sent.invariant.taken c.loop-sent.invariant.same
          c.loop-sent.invariant.lent);
      flushes = c.loop-sent.invariant.flushes;
      count = c.loop-sent.invariant.counted;
      unfinished = λ some. c.loop-sent.invariant.unfinished (omega arith);
    }
