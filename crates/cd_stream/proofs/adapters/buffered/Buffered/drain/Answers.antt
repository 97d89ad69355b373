use Rattle.std.proofs.Common.{◌-◌, arith, ap, drop, ◌∙◌, rules}
use Rattle.std.proofs.Math.ListN.{length-take}
use Rattle.cd_stream.proofs.BufferLemmas.{Keeps-passed, between}
use Rattle.cd_stream.proofs.adapters.buffered.Buffered.drain.Goals as goal

pub loop-self-preserved : goal.loop-self-preserved
loop-self-preserved g c =
    let before = c.loop-self.invariant in
    let now = c.loop-self.self in
    let went = c.in_ok-self.ensures.bytes in
    record {
      bytes = Keeps-passed _ _ _ now.start now.end c.in_ok-self.field-0 now.space.items _
          (omega (
            arith,
            went.1,
            length-take (now.end - now.start) (drop now.start c.deref.result.now),
          ))
          (ap (between now.start now.end) c.deref.ensures.value) before.bytes went.2;
      taken = omega (
        arith,
        before.taken,
        c.in_ok-self.ensures.taken,
        went.1,
        length-take (now.end - now.start) (drop now.start c.deref.result.now),
      );
      flushes = c.in_ok-self.ensures.flushes ∙ before.flushes;
      counted = c.in_ok-self.ensures.count ∙ before.counted;
      finished = before.finished;
      lent = c.in_ok-self.ensures.lent ∙ before.lent;
      space = before.space;
    }

pub returns : goal.returns
returns g c = search rules

pub returns-in_err-self : goal.returns-in_err-self
returns-in_err-self g c = search rules
