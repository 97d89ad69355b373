use Rattle.std.proofs.Common.{◌<◌, ◌&&◌, ap, length, nat_eq, refl, sym, subst, ◌∙◌, arith}
use Rattle.std.specs.Io.KnownBytes.{append_known}
use Rattle.cd_stream.specs.Transfer.{Counts}
use Rattle.cd_stream.specs.Buffering.{buffered_outgoing, held_bytes}
use Rattle.cd_stream.proofs.BufferLemmas.{IfOk-any, PutSome-past, held_only-past, between-none}
use Rattle.cd_stream.proofs.adapters.buffered.Buffered.write_past.Goals as goal

pub returns-then-bytes-len-clause-writes : goal.returns-then-bytes-len-clause-writes
returns-then-bytes-len-clause-writes g c =
    let seen = g.S.Sink.seen in
    let now = c.drain.new.self in
    let past = seen c.write.new.self in
    let ends = c.in_ok-drain.ensures.empty refl in
    let none = between-none now.start now.end now.space.items ends.0 ends.1 in
    record {
      bytes = PutSome-past (buffered_outgoing seen c.args.self.now)
          (record past { written = append_known past.written (held_bytes now) }) (seen now.inner)
          past (held_bytes now) c.args.bytes.now c.write.result none refl c.drain.ensures.bytes
          c.write.ensures.bytes;
      taken = omega (arith, c.drain.ensures.taken, c.write.ensures.taken, ends.0, ends.1);
      flushes = c.write.ensures.flushes ∙ c.drain.ensures.flushes;
      count = subst (λ k. Counts k past.failures c.write.result) c.in_ok-drain.ensures.count
          c.write.ensures.count;
      unfinished = ap (λ own. own && past.finished && nat_eq now.start now.end)
          (c.drain.ensures.finished ∙ c.requires.unfinished);
      flush_may_fail = refl;
      lent = c.write.ensures.lent ∙ c.drain.ensures.lent;
    }

pub returns-then-bytes-len-clause-held : goal.returns-then-bytes-len-clause-held
returns-then-bytes-len-clause-held g c =
    let now = c.drain.new.self in
    let ends = c.in_ok-drain.ensures.empty refl in
    let none = between-none now.start now.end now.space.items ends.0 ends.1 in
    let more : length c.args.self.now.space.items < length c.args.bytes.now =
    omega (arith, c.if-bytes-len.true, c.drain.ensures.space) in
    IfOk-any c.write.result _
    (none ∙ sym (held_only-past (length c.args.self.now.space.items) c.args.bytes.now more))
