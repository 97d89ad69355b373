use Rattle.std.proofs.Common.{arith, nat_eq, ap, ◌∙◌}
use Rattle.std.proofs.lemmas.Bool.{ne_eqb}
use Rattle.cd_stream.proofs.TransferLemmas.{Consumes-ended, Consumes-filled, Gives-front}
use Rattle.cd_stream.proofs.transfer.fill_buffer.Goals as goal

pub loop-have-preserved : goal.loop-have-preserved
loop-have-preserved g c =
    let before = c.loop-have.invariant in
    let came = c.in_ok-n.ensures.bytes in
    record {
      within = omega (arith, c.read.auto.into, c.loop-have.auto.into, came.0);
      consumed = Consumes-filled _ _ _ c.loop-have.have c.in_ok-n.n c.loop-have.into c.read.new.into
          _ before.within came.0 before.consumed came.1;
      given = omega (arith, c.in_ok-n.ensures.given, before.given);
      counted = c.in_ok-n.ensures.count ∙ before.counted;
      going = λ _. c.in_ok-n.ensures.ended ∙ ne_eqb c.in_ok-n.n 0 c.if-n-eq0.false;
    }

pub returns-then-n-eq0 : goal.returns-then-n-eq0
returns-then-n-eq0 g c =
    let before = c.loop-have.invariant in
    let came = c.in_ok-n.ensures.bytes in
    let none = c.if-n-eq0.true in
    record {
      bytes = (
        omega (arith, c.read.auto.into, c.loop-have.auto.into, came.0),
        Consumes-ended _ _ _ c.loop-have.have c.in_ok-n.n c.loop-have.into c.read.new.into _
            before.within none before.consumed came.1,
        λ _. came.2 none,
      );
      given = Gives-front _ _ c.loop-have.have _
          (omega (arith, c.read.auto.into, c.loop-have.auto.into, came.0))
          (Consumes-ended _ _ _ c.loop-have.have c.in_ok-n.n c.loop-have.into c.read.new.into _
          before.within none before.consumed came.1)
          (omega (arith, c.in_ok-n.ensures.given, before.given, none));
      count = c.in_ok-n.ensures.count ∙ before.counted;
      ended = (
        λ _. c.in_ok-n.ensures.ended ∙ ap (λ k. nat_eq k 0) none,
        λ _ full. absurd
            (omega (arith, full, c.loop-have-test.true, before.within, c.read.auto.into)),
      );
    }

pub returns-after-loop-have : goal.returns-after-loop-have
returns-after-loop-have g c =
    let after = c.loop-have.invariant in
    record {
      bytes = (
        after.within,
        after.consumed,
        λ room. absurd (omega (arith, room, c.loop-have-test.false)),
      );
      given = Gives-front _ _ c.loop-have.have c.loop-have.into after.within
          after.consumed after.given;
      count = after.counted;
      ended = (
        λ room. absurd (omega (arith, room, c.loop-have-test.false)),
        λ some _. after.going some,
      );
    }
