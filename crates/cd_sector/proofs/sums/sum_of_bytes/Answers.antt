use Rattle.std.proofs.Common.{◌≡◌, length, arith}
use Rattle.cd_code.proofs.ByteLemmas.{IsSum-below}
use Rattle.cd_sector.proofs.sums.sum_of_bytes.Goals as goal

pub returns : goal.returns
returns c =
    let size : length c.loop-i.sum ≡ 2352 = c.loop-i.invariant.size in
    IsSum-below c.loop-i.sum c.args.s.now c.args.t.now 2352 (omega arith) (omega arith) (omega arith)
    (λ i inside. c.loop-i.invariant.below i (omega arith))
