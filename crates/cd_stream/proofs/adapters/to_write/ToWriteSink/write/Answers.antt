use Rattle.std.proofs.Common.{arith, refl, rules}
use Rattle.cd_stream.proofs.adapters.to_write.ToWriteSink.write.Goals as goal

pub returns-in-Ok : goal.returns-in-Ok
returns-in-Ok g c = record {
  bytes = (omega arith, c.in-Ok.ensures.bound, c.in-Ok.ensures.bytes);
  taken = c.add.ensures;
  flushes = refl;
  count = refl;
  unfinished = refl;
  flush_may_fail = refl;
  lent = refl;
}

pub returns-in_default : goal.returns-in_default
returns-in_default g c = record {
  bytes = search rules;
  taken = omega arith;
  flushes = refl;
  count = refl;
  unfinished = refl;
  flush_may_fail = refl;
  lent = refl;
}
