use Rattle.std.proofs.Common.{◌≡◌, ◌+◌, ◌-◌, ◌<◌, ◌≤◌, false, length, take}
use Rattle.std.specs.Io.KnownBytes.{Appends}
use Rattle.cd_stream.proofs.transfer.write_all.Given as goal

abbrev pub invariant-loop-sent : goal.invariant-loop-sent
invariant-loop-sent g l = record {
  within : l.sent ≤ length l.bytes;
  appended : Appends (g.O.Sink.seen l.fn.out).written (g.O.Sink.seen l.out).written
      (take l.sent l.bytes);
  taken : (g.O.Sink.seen l.out).taken ≡ (g.O.Sink.seen l.fn.out).taken + l.sent;
  flushes : (g.O.Sink.seen l.out).flushes ≡ (g.O.Sink.seen l.fn.out).flushes;
  same : (g.O.Sink.seen l.out).flush_may_fail ≡ (g.O.Sink.seen l.fn.out).flush_may_fail;
  lent : (g.O.Sink.seen l.out).lent ≡ (g.O.Sink.seen l.fn.out).lent;
  counted : (g.O.Sink.seen l.out).failures ≡ (g.O.Sink.seen l.fn.out).failures;
  unfinished : 0 < l.sent → (g.O.Sink.seen l.out).finished ≡ false;
}

abbrev pub decreases-loop-sent : goal.decreases-loop-sent
decreases-loop-sent g l = length l.bytes - l.sent
