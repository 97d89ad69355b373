use Rattle.std.proofs.Common.{◌≡◌, ◌∙◌, ap, arith, nat_eq, refl, rules, subst, take}
use Rattle.std.specs.Io.KnownBytes.{Consumes}
use Rattle.std.proofs.lemmas.List.{length-take-le}
use Rattle.cd_read.specs.Reading.{TooMuchComes}
use Rattle.cd_read.proofs.reading.read_end.Goals as goal
use Rattle.cd_sector.specs.Image.{sector_limit}

pub returns-then-branch-gt0 : goal.returns-then-branch-gt0
returns-then-branch-gt0 g c =
    let came = c.in_ok-read.ensures in
    let one : c.in_ok-read.field-0 ≡ 1 = omega arith in
    let too_much : TooMuchComes sector_limit (g.I.Source.seen c.args.image.now)
    (g.I.Source.seen c.read.new.self) = record {
      came = take c.in_ok-read.field-0 c.read.new.into;
      one = search rules;
      consumes = came.bytes.1;
      counted =
          omega (
            arith,
            came.given,
            length-take-le c.in_ok-read.field-0 c.read.new.into came.bytes.0,
          );
      kept = came.count;
      unended = came.ended ∙ ap (λ n. nat_eq n 0) one;
      full = refl;
    } in
    too_much

pub returns : goal.returns
returns g c =
    let came = c.in_ok-read.ensures in
    let none : c.in_ok-read.field-0 ≡ 0 = omega arith in
    record {
      short = omega arith;
      consumes =
          subst (λ n. Consumes (g.I.Source.seen c.args.image.now).rest
          (g.I.Source.seen c.read.new.self).rest (take n c.read.new.into)) none came.bytes.1;
      counted = omega (arith, came.given, none);
      size = refl;
      kept = came.count;
      at_end = came.bytes.2 none;
      ended = came.ended ∙ ap (λ n. nat_eq n 0) none;
      within = omega arith;
    }
