use Rattle.std.proofs.Common.{rules}
use Rattle.cd_script.proofs.laws.limits_agree.Goals as goal

pub returns-clause-digits : goal.returns-clause-digits
returns-clause-digits c = search rules

pub returns-clause-text : goal.returns-clause-text
returns-clause-text c = search rules
