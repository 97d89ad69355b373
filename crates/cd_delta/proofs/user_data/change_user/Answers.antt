use Rattle.cd_delta.specs.Writing.{IsChanged}
use Rattle.std.proofs.Common.{◌+◌, inl, arith}
use Rattle.cd_delta.proofs.UserLemmas.{user-of, edc-of, divides-of, kind-of, user-header, user-stays, IsConsistent-of}
use Rattle.cd_delta.proofs.user_data.change_user.Goals as goal

pub returns : goal.returns
returns c =
    let changed : IsChanged c.args.s.now c.change_bytes.new.s (16 + c.args.offset) c.args.bytes.now 0 =
    c.change_bytes.ensures in
    let kind = kind-of changed (omega arith) (inl (omega arith)) in
    record {
      user = user-of c.args.offset changed;
      edc = edc-of changed;
      divides = divides-of changed;
      kind = kind;
      header = user-header c.args.offset changed;
      stays = user-stays c.args.offset changed;
      syndromes = changed.syndromes;
      consistent = IsConsistent-of changed (divides-of changed) kind;
    }
