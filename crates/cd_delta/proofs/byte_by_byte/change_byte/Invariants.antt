use Rattle.std.proofs.Common.{◌≡◌, length, drop}
use Rattle.cd_code.specs.Field.{AreBytes}
use Rattle.cd_delta.specs.ParityChanges.{with_changes}
use Rattle.cd_delta.proofs.byte_by_byte.change_byte.Given as goal

abbrev pub invariant-loop-change : goal.invariant-loop-change
invariant-loop-change l = record {
  rest : with_changes l.s (drop l.change-index l.change-items) ≡ with_changes l.initial.s l.change-items;
  size : length l.s ≡ 2352;
  each : AreBytes l.s;
}
