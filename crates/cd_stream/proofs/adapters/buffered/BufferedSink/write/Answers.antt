use Rattle.std.proofs.Common.{ap, arith, length, refl, rules, subst, sym}
use Rattle.std.proofs.KnownBytes.{Keeps-refl, append_known-grown}
use Rattle.std.proofs.lemmas.List.{take_all}
use Rattle.std.specs.Io.KnownBytes.{Appends, Keeps, append_known}
use Rattle.cd_stream.specs.Buffering.{held_bytes}
use Rattle.cd_stream.proofs.adapters.buffered.BufferedSink.write.Goals as goal

pub hold-requires : goal.hold-requires
hold-requires g c = search rules

pub returns-then-bytes-len-clause-writes : goal.returns-then-bytes-len-clause-writes
returns-then-bytes-len-clause-writes g c = search rules

pub returns-then-bytes-len-clause-fits : goal.returns-then-bytes-len-clause-fits
returns-then-bytes-len-clause-fits g c = search rules

pub returns-then-bytes-len-clause-held : goal.returns-then-bytes-len-clause-held
returns-then-bytes-len-clause-held g c = search rules

pub returns-clause-writes : goal.returns-clause-writes
returns-clause-writes g c =
    let seen = g.S.Sink.seen in
    let held = held_bytes c.args.self.now in
    let got = append_known (seen c.args.self.now.inner).written held in
    record {
      bytes = (
        c.requires.some,
        omega arith,
        subst (Appends got _)
            (sym (take_all (length c.args.bytes.now) c.args.bytes.now (omega arith)))
            (append_known-grown got (seen c.hold.new.self.inner).written held
            (held_bytes c.hold.new.self) c.args.bytes.now
            (subst (λ s. Keeps got (append_known (seen s).written held)) (sym c.hold.ensures.inner)
            (Keeps-refl got)) c.hold.ensures.held),
      );
      taken = omega (arith, c.hold.ensures.count, ap (λ s. (seen s).taken) c.hold.ensures.inner);
      flushes = ap (λ s. (seen s).flushes) c.hold.ensures.inner;
      count = ap (λ s. (seen s).failures) c.hold.ensures.inner;
      unfinished = search rules;
      flush_may_fail = refl;
      lent = ap (λ s. (seen s).lent) c.hold.ensures.inner;
    }
