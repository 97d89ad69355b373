use Rattle.std.proofs.Common.{◌++◌, drop, sym, subst, arith}
use Rattle.std.proofs.lemmas.List.{length-take-le}
use Rattle.cd_patch.specs.Effect.{EffectOf}
use Rattle.cd_patch.proofs.TakingLemmas.{IsApplied-from, taken}
use Rattle.cd_patch.proofs.effect.apply_lent.Goals as goal

pub slice_bounds-change_blocks-end : goal.slice_bounds-change_blocks-end
slice_bounds-change_blocks-end c =
    (taken c.decide-outcome.ensures.outcome c.is_applied.ensures c.if-is_applied.true
    c.blocks_met_lent-count.ensures.number).room

pub slice_bounds-change_blocks-end-then-is_applied : goal.slice_bounds-change_blocks-end-then-is_applied
slice_bounds-change_blocks-end-then-is_applied c =
    let t =
    taken c.decide-outcome.ensures.outcome c.is_applied.ensures c.if-is_applied.true
    c.blocks_met_lent-count.ensures.number in
    sym (length-take-le c.blocks_met_lent-count.result c.args.sectors.now t.room)

pub change_blocks-requires : goal.change_blocks-requires
change_blocks-requires c =
    let t =
    taken c.decide-outcome.ensures.outcome c.is_applied.ensures c.if-is_applied.true
    c.blocks_met_lent-count.ensures.number in
    record { patch = c.requires; met = t.size; mode = t.mode; sound = t.sound }

pub returns-then-is_applied-clause-effect : goal.returns-then-is_applied-clause-effect
returns-then-is_applied-clause-effect c =
    let p = c.args.patch.now in
    let ss = c.args.sectors.now in
    let front = c.change_blocks.new.sectors in
    let number = c.blocks_met_lent-count.ensures.number in
    let t = taken c.decide-outcome.ensures.outcome c.is_applied.ensures c.if-is_applied.true number in
    subst (λ o. EffectOf c.args.carry o p.block p ss (front ++ drop c.blocks_met_lent-count.result ss))
    (sym t.applied)
    (rw number (IsApplied-from c.args.carry p ss front (omega (arith, t.room))
    (rw number at (c.decide-outcome.ensures.users t.is)) (rw number at c.change_blocks.ensures)))
