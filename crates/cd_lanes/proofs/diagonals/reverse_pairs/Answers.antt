use Rattle.cd_lanes.proofs.DiagonalLemmas.{rising_lane}
use Rattle.cd_lanes.proofs.diagonals.reverse_pairs.Goals as goal

pub returns : goal.returns
returns c = rising_lane c.args.v c.args.v c.fits-v.0
