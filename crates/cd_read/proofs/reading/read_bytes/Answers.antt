use Rattle.std.proofs.Common.{◌≡◌, arith, rules, subst, take, take_all}
use Rattle.std.specs.Io.KnownBytes.{Consumes}
use Rattle.std.proofs.lemmas.List.{length-take-le}
use Rattle.cd_read.proofs.reading.read_bytes.Goals as goal

pub returns-then-count-eq-MAX_SECTORS : goal.returns-then-count-eq-MAX_SECTORS
returns-then-count-eq-MAX_SECTORS g c = rw c.if-count-eq-MAX_SECTORS.true assumption

pub returns-in_err-length : goal.returns-in_err-length
returns-in_err-length g c = search rules

pub returns-then-length-lt-SECTOR_SIZE : goal.returns-then-length-lt-SECTOR_SIZE
returns-then-length-lt-SECTOR_SIZE g c =
    let came = c.in_ok-length.ensures in
    record {
      short = omega arith;
      consumes = came.bytes.1;
      counted =
          omega (
            arith,
            came.given.counted,
            length-take-le c.in_ok-length.length c.fill_buffer.new.into came.bytes.0,
          );
      size = length-take-le c.in_ok-length.length c.fill_buffer.new.into came.bytes.0;
      kept = came.count;
      at_end = came.bytes.2 (omega arith);
      ended = came.ended.0 (omega arith);
      within = omega arith;
    }

pub returns : goal.returns
returns g c =
    let came = c.in_ok-length.ensures in
    let whole : take c.in_ok-length.length c.fill_buffer.new.into ≡ c.fill_buffer.new.into =
    take_all c.in_ok-length.length c.fill_buffer.new.into (omega arith) in
    record {
      consumes =
          subst (λ bytes. Consumes (g.I.Source.seen c.args.image.now).rest
          (g.I.Source.seen c.fill_buffer.new.image).rest bytes) whole came.bytes.1;
      counted =
          omega (
            arith,
            came.given.counted,
            length-take-le c.in_ok-length.length c.fill_buffer.new.into came.bytes.0,
          );
      kept = came.count;
      unended = came.ended.1 (omega arith) (omega arith);
      few = omega arith;
      size = omega arith;
    }
