use Rattle.std.proofs.lemmas.Simd.{below_from_Fits}
use Rattle.cd_code.proofs.LaneLemmas.{lanes_doubled}
use Rattle.cd_code.proofs.lanes.doubled_lanes.Goals as goal
use mir.Syntax.{w8}

pub returns : goal.returns
returns c = rw c.fits-v.0 at (lanes_doubled c.args.v (below_from_Fits w8 c.args.v c.fits-v.1))
