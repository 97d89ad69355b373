use Rattle.std.proofs.Common.{◌+◌, ◌/◌, ◌%◌, length, sym, ap, subst, ◌∙◌, arith}
use Rattle.cd_patch.specs.Deciding.{by_difference}
use Rattle.cd_patch.specs.Parts.{HaveUsers}
use Rattle.cd_patch.proofs.DecidingLemmas.{AreMet-from, Differs-same, first_refusal-is, outcome-refused, outcome-found, refusal-asked}
use Rattle.cd_patch.proofs.RangeLemmas.{old-fits}
use Rattle.cd_patch.proofs.deciding.decide.Goals as goal

pub returns-in-Some-clause-outcome : goal.returns-in-Some-clause-outcome
returns-in-Some-clause-outcome c =
    sym (outcome-refused c.args.carry c.args.sectors.now c.args.patch.now.block c.args.patch.now
    c.in-Some.refusal
    (sym (refusal-asked c.args.patch.now _ _ c.first_refusal.ensures.refusal
    c.needs_consistent-must_be_consistent.ensures c.meaning-edit.ensures.keeps_old
    c.requires.count) ∙ c.in-Some.is))

pub returns-in-Some-clause-users : goal.returns-in-Some-clause-users
returns-in-Some-clause-users c = λ applied.
    let is =
    rw (← c.first_refusal.ensures.refusal, c.in-Some.is, applied) at
    (first_refusal-is c.args.sectors.now c.args.patch.now.block
    c.needs_consistent-must_be_consistent.result c.args.patch.now.block c.args.count) in
    absurd cc

pub first_difference-requires : goal.first_difference-requires
first_difference-requires c =
    let p = c.args.patch.now in
    let met =
    AreMet-from c.args.sectors.now p.block _ c.args.count
    (sym c.first_refusal.ensures.refusal ∙ c.in_default.is) in
    let fits = old-fits p c.requires.patch in
    let size = ap length c.meaning-edit.ensures.old in
    omega (arith, met.enough, fits.0)

pub overflow_cast-result : goal.overflow_cast-result
overflow_cast-result c =
    let fits = old-fits c.args.patch.now c.requires.patch in
    let size = ap length c.meaning-edit.ensures.old in
    omega (arith, c.in-Some-first_difference.ensures.within, fits.1)

pub overflow_add-result : goal.overflow_add-result
overflow_add-result c =
    let fits = old-fits c.args.patch.now c.requires.patch in
    let size = ap length c.meaning-edit.ensures.old in
    omega (arith, c.in-Some-first_difference.ensures.within, fits.1)

pub returns-in-None-clause-users : goal.returns-in-None-clause-users
returns-in-None-clause-users c = λ applied. c.first_refusal.ensures.users cc

pub returns-in-None-clause-outcome : goal.returns-in-None-clause-outcome
returns-in-None-clause-outcome c =
    let p = c.args.patch.now in
    sym (outcome-found c.args.carry c.args.sectors.now p c.meaning-edit.result.old.now
    c.first_difference.result c.requires.patch
    (sym (refusal-asked p _ _ c.first_refusal.ensures.refusal
    c.needs_consistent-must_be_consistent.ensures c.meaning-edit.ensures.keeps_old
    c.requires.count) ∙ c.in_default.is) c.meaning-edit.ensures.old
    (subst (HaveUsers c.args.sectors.now) c.requires.count (c.first_refusal.ensures.users cc))
    c.first_difference.ensures.value ∙ ap (by_difference p.block) c.in-None.is)

pub returns-in-Some-first_difference-clause-outcome :
    goal.returns-in-Some-first_difference-clause-outcome
returns-in-Some-first_difference-clause-outcome c =
    let p = c.args.patch.now in
    let place = c.in-Some-first_difference.place in
    Differs-same _ _ (p.block + place / 2048) (place % 2048) (omega arith) (omega arith)
    ∙ sym (outcome-found c.args.carry c.args.sectors.now p c.meaning-edit.result.old.now
    c.first_difference.result c.requires.patch
    (sym (refusal-asked p _ _ c.first_refusal.ensures.refusal
    c.needs_consistent-must_be_consistent.ensures c.meaning-edit.ensures.keeps_old
    c.requires.count) ∙ c.in_default.is) c.meaning-edit.ensures.old
    (subst (HaveUsers c.args.sectors.now) c.requires.count (c.first_refusal.ensures.users cc))
    c.first_difference.ensures.value
    ∙ ap (by_difference p.block) c.in-Some-first_difference.is)
