use Rattle.std.proofs.Common.{refl}
use Rattle.cd_code.proofs.lane_sums.LaneSums.zero.Goals as goal

pub returns-clause-weighted : goal.returns-clause-weighted
returns-clause-weighted c = refl
