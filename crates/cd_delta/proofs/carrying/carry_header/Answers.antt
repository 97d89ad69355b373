use Rattle.std.proofs.Common.{rules, inr, lit≤, arith}
use Rattle.std.specs.Prelude.{◌≡◌, ◌++◌, drop, length}
use Rattle.cd_sector.specs.Carried.{IsCarried}
use Rattle.cd_sector.specs.Consistent.{header_of, user_of}
use Rattle.cd_sector.proofs.CarriedLemmas.{carried_unique}
use Rattle.cd_delta.specs.Writing.{KeepsError}
use Rattle.cd_delta.proofs.CarryLemmas.{carried-consistent, carried-of, stored-sum}
use Rattle.cd_delta.proofs.UserLemmas.{header-of, header-user, kind-of}
use Rattle.cd_delta.proofs.carrying.carry_header.Goals as goal

pub returns : goal.returns
returns c =
    let old = c.args.s.now in
    let new = c.carry_bytes.new.s in
    let bcd = c.args.bcd in
    let kept : KeepsError old new 12 bcd = c.carry_bytes.ensures in
    let stored = kept.before in
    let changed = kept.changed in
    let three : length bcd ≡ 3 = search rules in
    let kind = kind-of changed (lit≤ tt) (inr (omega arith)) in
    let carried : IsCarried old (bcd ++ drop 3 (header_of old)) (user_of old) new =
    carried-of changed stored (lit≤ tt) (bcd ++ drop 3 (header_of old)) (user_of old)
    (header-of changed three) (header-user changed three) in
    record {
      carried = carried;
      unique = λ t other. carried_unique old (bcd ++ drop 3 (header_of old)) (user_of old) t new
          other carried;
      kind = kind;
      edc = stored-sum stored changed.edc;
      consistent = carried-consistent changed stored kind;
    }
