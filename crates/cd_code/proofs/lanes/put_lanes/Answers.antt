use Rattle.std.proofs.Common.{◌≡◌, length, inl, inr, arith}
use Rattle.std.proofs.lemmas.Simd.{get_or-put_chunk_at, get_or-put_chunk_above, get_or-put_chunk_below}
use Rattle.cd_code.proofs.lanes.put_lanes.Goals as goal

pub returns-clause-inside : goal.returns-clause-inside
returns-clause-inside c = λ i h.
    let long : length c.args.lanes ≡ 32 = c.fits-lanes.0 in
    get_or-put_chunk_at c.args.at c.args.bytes.now c.args.lanes i 0 (omega arith) (omega arith)

pub returns-clause-outside : goal.returns-clause-outside
returns-clause-outside c = λ k h.
    let long : length c.args.lanes ≡ 32 = c.fits-lanes.0 in
    elim h [
      | inl below ↦ get_or-put_chunk_below c.args.at c.args.bytes.now c.args.lanes k 0 below
      | inr above ↦ get_or-put_chunk_above c.args.at c.args.bytes.now c.args.lanes k 0 (omega arith)
    ]
