use Rattle.std.proofs.Common.{◌≡◌, ◌<◌, ℕ, false, ◌==◌, length, sym, ◌∙◌, arith}
use Rattle.std.proofs.lemmas.Bool.Decides.{nat_tests}
use Rattle.cd_script.proofs.CuttingLemmas.{feed-end, first-cut, first-last}
use Rattle.cd_script.proofs.cutting.first_line.Goals as goal

not_empty : (n : ℕ) → (n == 0) ≡ false → 0 < n
not_empty n some = grind (arith, nat_tests)

pub returns-in-None-clause-some : goal.returns-in-None-clause-some
returns-in-None-clause-some c =
    first-last c.args.text.now c.in-None.ensures
    (not_empty (length c.args.text.now) (sym c.is_empty.ensures ∙ c.if-is_empty.false))

pub returns-in-Some-clause-some : goal.returns-in-Some-clause-some
returns-in-Some-clause-some c =
    first-cut c.args.text.now c.in-Some.feed _ c.in-Some.ensures c.size_before_feed.ensures.line
    c.size_before_feed.ensures.most

pub returns-in-Some-clause-end : goal.returns-in-Some-clause-end
returns-in-Some-clause-end c =
    feed-end c.args.text.now c.in-Some.feed _ c.in-Some.ensures c.size_before_feed.ensures.most
    c.size_before_feed.ensures.end
