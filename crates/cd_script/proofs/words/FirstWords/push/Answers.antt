use Rattle.std.proofs.Common.{◌≡◌, length, arith, sym, ◌∙◌}
use Rattle.std.proofs.lemmas.Bool.{eqb-true, eqb-false}
use Rattle.cd_script.proofs.SplitLemmas.{part_empty, part_pushed}
use Rattle.cd_script.proofs.words.FirstWords.push.Goals as goal

pub returns-then-not-is_empty : goal.returns-then-not-is_empty
returns-then-not-is_empty c =
    let some : length c.args.part.now ≡ 0 → ⊥ =
    eqb-false _ _ (sym c.is_empty.ensures ∙ c.if-not-is_empty.true) in
    rw (← c.self.view_is)
    (part_pushed c.self.inside.parts.items _ c.args.part (omega arith) c.push.ensures.items)

pub returns-else-not-is_empty : goal.returns-else-not-is_empty
returns-else-not-is_empty c =
    rw (← c.self.view_is)
    (part_empty c.self.inside.parts.items c.args.part.now
    (eqb-true _ _ (sym c.is_empty.ensures ∙ c.if-not-is_empty.false)))
