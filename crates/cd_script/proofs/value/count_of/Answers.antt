use Rattle.std.proofs.Common.{rules, tests}
use Rattle.cd_script.specs.Value.{count_at}
use Rattle.cd_script.proofs.value.count_of.Goals as goal

pub returns : goal.returns
unfolding count_at
returns c = search (rules, tests)
