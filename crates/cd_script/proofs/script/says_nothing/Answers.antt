use Rattle.std.proofs.Common.{arith, rules}
use Rattle.cd_script.proofs.SplitLemmas.{words-comment, words-empty}
use Rattle.cd_script.proofs.script.says_nothing.Goals as goal

pub returns-in-empty : goal.returns-in-empty
returns-in-empty c = λ _. words-empty c.args.line.now (omega arith)

pub returns-in-empty-2 : goal.returns-in-empty-2
returns-in-empty-2 c = λ _.
    words-comment c.args.line.now (omega arith) (search rules)
