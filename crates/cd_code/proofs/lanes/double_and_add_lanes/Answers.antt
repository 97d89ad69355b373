use Rattle.std.proofs.Common.{◌≡◌, length, bit_xor, ap, ◌∙◌}
use Rattle.std.specs.Simd.Lanes.{chunk, zip2}
use Rattle.std.proofs.lemmas.List.{length-map}
use Rattle.std.proofs.lemmas.Simd.{get_or-put_chunk_below, length-chunk}
use Rattle.cd_code.specs.Field.{double}
use Rattle.cd_code.proofs.LaneLemmas.{lanes_added, lanes_above}
use Rattle.cd_code.proofs.lanes.double_and_add_lanes.Goals as goal

pub returns-clause-added : goal.returns-clause-added
returns-clause-added c =
    lanes_added double c.args.at 32 c.args.sums.now c.args.row.now c.doubled_lanes.result
    c.requires.within_sums c.requires.within_row c.doubled_lanes.ensures

pub returns-clause-below : goal.returns-clause-below
returns-clause-below c =
    λ k h. get_or-put_chunk_below c.args.at c.args.sums.now
    (zip2 bit_xor c.doubled_lanes.result (chunk c.args.at 32 c.args.row.now)) k 0 h

pub returns-clause-above : goal.returns-clause-above
returns-clause-above c =
    let sums = c.args.sums.now in
    let long : length c.doubled_lanes.result ≡ 32 =
    ap length c.doubled_lanes.ensures ∙ length-map (chunk c.args.at 32 sums) double
    ∙ length-chunk c.args.at 32 sums c.requires.within_sums in
    lanes_above c.args.at 32 sums c.args.row.now c.doubled_lanes.result c.requires.within_row long
