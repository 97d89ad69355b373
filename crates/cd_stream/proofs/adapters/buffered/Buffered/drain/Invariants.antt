use Rattle.std.proofs.Common.{◌-◌, ◌≡◌}
use Rattle.std.specs.Io.KnownBytes.{Keeps}
use Rattle.cd_stream.specs.Buffering.{buffered_outgoing, space_of}
use Rattle.cd_stream.proofs.adapters.buffered.Buffered.drain.Given as goal

abbrev pub invariant-loop-self : goal.invariant-loop-self
invariant-loop-self g l = record {
  bytes : Keeps (buffered_outgoing g.S.Sink.seen l.initial.self).written
      (buffered_outgoing g.S.Sink.seen l.self).written;
  taken : (buffered_outgoing g.S.Sink.seen l.self).taken
      ≡ (buffered_outgoing g.S.Sink.seen l.initial.self).taken;
  flushes : (g.S.Sink.seen l.self.inner).flushes ≡ (g.S.Sink.seen l.initial.self.inner).flushes;
  counted : (g.S.Sink.seen l.self.inner).failures ≡ (g.S.Sink.seen l.initial.self.inner).failures;
  finished : l.self.finished ≡ l.initial.self.finished;
  lent : (g.S.Sink.seen l.self.inner).lent ≡ (g.S.Sink.seen l.initial.self.inner).lent;
  space : space_of l.self ≡ space_of l.initial.self;
}

abbrev pub decreases-loop-self : goal.decreases-loop-self
decreases-loop-self g l = l.self.end - l.self.start
