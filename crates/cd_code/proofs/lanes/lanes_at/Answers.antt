use Rattle.std.proofs.lemmas.Simd.{get_or-chunk}
use Rattle.cd_code.proofs.lanes.lanes_at.Goals as goal

pub returns : goal.returns
returns c = λ i h. get_or-chunk c.args.at 32 c.args.bytes.now i 0 h
