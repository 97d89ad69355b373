use Rattle.std.proofs.Common.{bit_xor, sym}
use Rattle.std.specs.Simd.Lanes.{chunk, zip2}
use Rattle.std.proofs.lemmas.List.{map-id}
use Rattle.std.proofs.lemmas.Simd.{get_or-put_chunk_below, length-chunk}
use Rattle.cd_code.proofs.LaneLemmas.{lanes_added, lanes_above}
use Rattle.cd_code.proofs.lanes.add_lanes.Goals as goal

pub returns-clause-added : goal.returns-clause-added
returns-clause-added c =
    let sums = c.args.sums.now in
    let lanes = chunk c.args.at 32 sums in
    lanes_added (λ x.
    x) c.args.at 32 sums c.args.row.now lanes c.requires.within_sums c.requires.within_row
    (sym (map-id lanes))

pub returns-clause-below : goal.returns-clause-below
returns-clause-below c =
    let sums = c.args.sums.now in
    λ k h. get_or-put_chunk_below c.args.at sums
    (zip2 bit_xor (chunk c.args.at 32 sums) (chunk c.args.at 32 c.args.row.now)) k 0 h

pub returns-clause-above : goal.returns-clause-above
returns-clause-above c =
    let sums = c.args.sums.now in
    lanes_above c.args.at 32 sums c.args.row.now (chunk c.args.at 32 sums) c.requires.within_row
    (length-chunk c.args.at 32 sums c.requires.within_sums)
