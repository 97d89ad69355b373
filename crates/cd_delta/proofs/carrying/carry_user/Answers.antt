use Rattle.std.proofs.Common.{◌+◌, inl, arith}
use Rattle.cd_sector.specs.Carried.{IsCarried}
use Rattle.cd_sector.specs.Consistent.{header_of, user_of}
use Rattle.cd_sector.proofs.CarriedLemmas.{carried_unique}
use Rattle.cd_delta.specs.Writing.{KeepsError, with_range}
use Rattle.cd_delta.proofs.CarryLemmas.{carried-consistent, carried-of, stored-sum}
use Rattle.cd_delta.proofs.UserLemmas.{kind-of, user-header, user-of}
use Rattle.cd_delta.proofs.carrying.carry_user.Goals as goal

pub returns : goal.returns
returns c =
    let old = c.args.s.now in
    let new = c.carry_bytes.new.s in
    let offset = c.args.offset in
    let bytes = c.args.bytes.now in
    let kept : KeepsError old new (16 + offset) bytes = c.carry_bytes.ensures in
    let stored = kept.before in
    let changed = kept.changed in
    let kind = kind-of changed (omega arith) (inl (omega arith)) in
    let carried : IsCarried old (header_of old) (with_range (user_of old) offset bytes) new =
    carried-of changed stored (omega arith) (header_of old) (with_range (user_of old) offset bytes)
    (user-header offset changed) (user-of offset changed) in
    record {
      carried = carried;
      unique = λ t other. carried_unique old (header_of old) (with_range (user_of old) offset bytes) t
          new other carried;
      kind = kind;
      edc = stored-sum stored changed.edc;
      consistent = carried-consistent changed stored kind;
    }
