use Rattle.std.proofs.Common.{◌≡◌, ◌<◌, ◌∙◌, arith, length, rules, sym, tests}
use Rattle.cd_c_scripts.proofs.BaseLemmas.{space-end, word-end}
use Rattle.cd_c_scripts.proofs.bases.ends_in_space.Goals as goal

pub returns-then-not-is_empty-clause-more : goal.returns-then-not-is_empty-clause-more
returns-then-not-is_empty-clause-more c = λ is.
    let some : 0 < length c.args.line.now = search (tests, rules) in
    space-end c.args.line.now some (sym c.is_space.ensures ∙ is)

pub returns-then-not-is_empty-clause-end : goal.returns-then-not-is_empty-clause-end
returns-then-not-is_empty-clause-end c = λ is.
    let some : 0 < length c.args.line.now = search (tests, rules) in
    word-end c.args.line.now some (sym c.is_space.ensures ∙ is)
