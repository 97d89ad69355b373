use Rattle.std.proofs.Common.{rules}
use Rattle.cd_script.proofs.words.find_space.Goals as goal

pub returns : goal.returns
returns c = search rules
