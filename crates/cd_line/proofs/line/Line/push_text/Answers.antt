use Rattle.std.proofs.Common.{rules}
use Rattle.cd_line.proofs.line.Line.push_text.Goals as goal

pub returns : goal.returns
returns c = search rules
