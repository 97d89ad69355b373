use Rattle.std.proofs.Common.{rules, tests}
use Rattle.cd_script.specs.Address.{address_bytes}
use Rattle.cd_script.proofs.address.address.Goals as goal

pub returns-in-58 : goal.returns-in-58
unfolding address_bytes
returns-in-58 c = search (rules, tests)
