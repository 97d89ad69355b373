use Rattle.cd_code.proofs.LaneLemmas.{lanes_doubled_added}
use Rattle.cd_code.proofs.lane_sums.doubled_and_added.Goals as goal

pub returns : goal.returns
returns c =
    lanes_doubled_added c.args.v c.args.added c.doubled_lanes.result c.fits-v.0 c.fits-added.0
    c.doubled_lanes.ensures
