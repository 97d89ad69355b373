use Rattle.cd_lanes.proofs.DiagonalLemmas.{mask_lanes-takes, mask_lanes-leaves}
use Rattle.cd_lanes.proofs.diagonals.mask_lanes.Goals as goal

pub returns-clause-takes : goal.returns-clause-takes
returns-clause-takes c =
    mask_lanes-takes c.args.lanes c.args.mask c.fits-lanes.0 c.fits-mask.0 c.fits-lanes.1

pub returns-clause-leaves : goal.returns-clause-leaves
returns-clause-leaves c = mask_lanes-leaves c.args.lanes c.args.mask c.fits-lanes.0 c.fits-mask.0
