use Rattle.std.proofs.Common.{rules, tests}
use Rattle.cd_script.specs.Address.{bcd_below}
use Rattle.cd_script.proofs.address.bcd_below.Goals as goal

pub returns : goal.returns
unfolding bcd_below
returns c = search (rules, tests)
