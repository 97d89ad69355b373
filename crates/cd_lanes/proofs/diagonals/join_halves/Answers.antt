use Rattle.std.proofs.Common.{inl, ◌∙◌, arith}
use Rattle.std.proofs.Math.Nat.{zero-add}
use Rattle.cd_lanes.proofs.diagonals.join_halves.Goals as goal

-- the first 20 of 32 lanes do not change if other lanes are written after them
pub returns : goal.returns
returns c =
    let plain = simp zero-add at c.put_lanes.ensures.inside in
    let weighted = simp zero-add at c.put_lanes-3.ensures.inside in
    record {
      plain_low = λ i h. c.put_lanes-2.ensures.outside i (inl h) ∙ plain i (omega arith);
      plain_high = c.put_lanes-2.ensures.inside;
      weighted_low = λ i h. c.put_lanes-4.ensures.outside i (inl h) ∙ weighted i (omega arith);
      weighted_high = c.put_lanes-4.ensures.inside;
    }
