use Rattle.std.proofs.Common.{◌≡◌, ◌-◌, ◌++◌, length, take, drop, [], inl, inr, sym, ap, subst, ◌∙◌, arith}
use Rattle.std.proofs.lemmas.List.{drop_all, length-drop, length-take-le}
use Rattle.cd_patch.specs.Deciding.{outcome}
use Rattle.cd_patch.specs.Effect.{Effect}
use Rattle.cd_c_scripts.proofs.PieceLemmas.{in_three}
use Rattle.cd_patch.proofs.FrameLemmas.{Effect-frame, Effect-missing, outcome-frame, outcome-missing}
use Rattle.cd_c_scripts.proofs.pieces.apply_at.Goals as goal

pub returns-then-patch-first-clause-outcome : goal.returns-then-patch-first-clause-outcome
returns-then-patch-first-clause-outcome c =
    sym (outcome-missing c.args.carry c.args.sectors.now c.args.first c.args.patch.now
    (inl (omega (arith, c.if-patch-first.true))))

pub returns-then-patch-first-clause-effect : goal.returns-then-patch-first-clause-effect
returns-then-patch-first-clause-effect c =
    Effect-missing c.args.carry c.args.sectors.now c.args.first c.args.patch.now
    (inl (omega (arith, c.if-patch-first.true)))

pub returns-then-place-sectors-clause-outcome : goal.returns-then-place-sectors-clause-outcome
returns-then-place-sectors-clause-outcome c =
    sym (outcome-missing c.args.carry c.args.sectors.now c.args.first c.args.patch.now
    (inr (omega (arith, c.if-place-sectors.true, c.if-patch-first.false))))

pub returns-then-place-sectors-clause-effect : goal.returns-then-place-sectors-clause-effect
returns-then-place-sectors-clause-effect c =
    Effect-missing c.args.carry c.args.sectors.now c.args.first c.args.patch.now
    (inr (omega (arith, c.if-place-sectors.true, c.if-patch-first.false)))

pub returns-clause-outcome : goal.returns-clause-outcome
returns-clause-outcome c =
    let s = c.args.sectors.now in
    let p = c.args.patch.now in
    let at = p.block - c.args.first in
    let n = length s - at in
    let size : length (take at s) ≡ at = length-take-le at s (omega (arith, c.if-place-sectors.false)) in
    let none : drop n (drop at s) ≡ [] = drop_all n (drop at s) (omega (arith, length-drop at s)) in
    c.apply_lent.ensures.outcome
    ∙ sym (outcome-frame c.args.carry (take at s) (take n (drop at s)) (drop n (drop at s)) c.args.first
    p.block p (omega (arith, size, c.if-patch-first.false)) (omega arith) (inr none))
    ∙ ap (λ l. outcome c.args.carry l c.args.first p) (in_three at n s)

pub returns-clause-effect : goal.returns-clause-effect
returns-clause-effect c =
    let s = c.args.sectors.now in
    let p = c.args.patch.now in
    let at = p.block - c.args.first in
    let n = length s - at in
    let size : length (take at s) ≡ at = length-take-le at s (omega (arith, c.if-place-sectors.false)) in
    let none : drop n (drop at s) ≡ [] = drop_all n (drop at s) (omega (arith, length-drop at s)) in
    subst (λ l. Effect c.args.carry c.args.first p l
    (take at s ++ (c.apply_lent.new.sectors ++ drop n (drop at s)))) (in_three at n s)
    (Effect-frame c.args.carry (take at s) (take n (drop at s)) c.apply_lent.new.sectors
    (drop n (drop at s)) c.args.first p.block p (omega (arith, size, c.if-patch-first.false)) (omega arith)
    (inr none) c.apply_lent.ensures.effect)
