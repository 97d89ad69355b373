use Rattle.std.proofs.Common.{refl}
use Rattle.cd_stream.proofs.adapters.to_write.ToWriteSink.finish.Goals as goal

pub returns : goal.returns
returns g c = record {
  bytes = c.flush.ensures.bytes;
  taken = refl;
  flushes = c.add.ensures;
  count = refl;
  finished = cc;
  flush_may_fail = refl;
  lent = refl;
  fails = tt;
}
