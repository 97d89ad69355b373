use Rattle.std.proofs.Common.{rules}
use Rattle.cd_line.proofs.line.Line.new.Goals as goal

pub returns-clause-empty : goal.returns-clause-empty
returns-clause-empty c = search rules
