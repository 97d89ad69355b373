use Rattle.cd_code.proofs.LaneLemmas.{select_lanes-new, select_lanes-old}
use Rattle.cd_code.proofs.lane_sums.select_lanes.Goals as goal

pub returns-clause-new : goal.returns-clause-new
returns-clause-new c =
    select_lanes-new c.args.old c.args.new c.args.mask c.fits-old.0 c.fits-new.0 c.fits-mask.0
    c.fits-old.1 c.fits-new.1

pub returns-clause-old : goal.returns-clause-old
returns-clause-old c =
    select_lanes-old c.args.old c.args.new c.args.mask c.fits-old.0 c.fits-new.0 c.fits-mask.0
