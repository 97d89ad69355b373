use Rattle.std.proofs.Common.{refl}
use Rattle.std.specs.Fmt.{digits}
use Rattle.cd_script.proofs.fault.ScriptFault.text.Goals as goal

pub returns-in-Offset-clause-text : goal.returns-in-Offset-clause-text
unfolding digits
returns-in-Offset-clause-text c = rw c.in-Offset.is refl

pub returns-in-TooMany-clause-text : goal.returns-in-TooMany-clause-text
unfolding digits
returns-in-TooMany-clause-text c = rw c.in-TooMany.is refl
