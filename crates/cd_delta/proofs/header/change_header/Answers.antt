use Rattle.std.proofs.Common.{inr, rules, arith, lit≤}
use Rattle.std.specs.Prelude.{◌≡◌, length}
use Rattle.cd_delta.specs.Writing.{IsChanged}
use Rattle.cd_delta.proofs.UserLemmas.{header-of, header-user, header-stays, kind-of, edc-of, divides-of, IsConsistent-of}
use Rattle.cd_delta.proofs.header.change_header.Goals as goal

pub returns : goal.returns
returns c =
    let changed : IsChanged c.args.s.now c.put_address.new.s 12 c.args.bcd 0 =
    c.put_address.ensures in
    let three : length c.args.bcd ≡ 3 = search rules in
    let kind = kind-of changed (lit≤ tt) (inr (omega arith)) in
    record {
      header = header-of changed three;
      user = header-user changed three;
      edc = edc-of changed;
      divides = divides-of changed;
      kind = kind;
      stays = header-stays changed three;
      syndromes = changed.syndromes;
      consistent = IsConsistent-of changed (divides-of changed) kind;
    }
