use Rattle.std.proofs.Common.{◌≡◌, length, bit_xor, rules, arith}
use Rattle.std.proofs.lemmas.Simd.{get_or-zip2}
use Rattle.cd_code.proofs.lane_sums.LaneSums.with_lanes.Goals as goal

pub returns-clause-plain : goal.returns-clause-plain
returns-clause-plain c = λ i h.
    let plain_len : length c.args.self.plain ≡ 32 = search rules in
    get_or-zip2 bit_xor c.args.self.plain c.args.lanes i 0 0 0 (omega arith) (omega arith)
