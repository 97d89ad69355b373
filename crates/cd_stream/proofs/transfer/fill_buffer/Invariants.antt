use Rattle.std.proofs.Common.{◌≡◌, ◌+◌, ◌-◌, ◌<◌, ◌≤◌, false, length, take}
use Rattle.std.specs.Io.KnownBytes.{Consumes}
use Rattle.cd_stream.proofs.transfer.fill_buffer.Given as goal

abbrev pub invariant-loop-have : goal.invariant-loop-have
invariant-loop-have g l = record {
  within : l.have ≤ length l.into;
  consumed : Consumes (g.I.Source.seen l.fn.image).rest (g.I.Source.seen l.image).rest
      (take l.have l.into);
  given : (g.I.Source.seen l.image).given ≡ (g.I.Source.seen l.fn.image).given + l.have;
  counted : (g.I.Source.seen l.image).failures ≡ (g.I.Source.seen l.fn.image).failures;
  going : 0 < l.have → (g.I.Source.seen l.image).ended ≡ false;
}

abbrev pub decreases-loop-have : goal.decreases-loop-have
decreases-loop-have g l = length l.initial.into - l.have
