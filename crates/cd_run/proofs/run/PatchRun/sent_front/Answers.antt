use Rattle.std.proofs.Common.{arith, ◌-◌}
use Rattle.cd_run.proofs.PlaceLemmas.{HasReached-sent, first_sized, tail_moved}
use Rattle.cd_run.proofs.run.PatchRun.sent_front.Goals as goal

pub returns-clause-goes : goal.returns-clause-goes
returns-clause-goes c = λ carry taken left base seen done outcomes ahead g.
    let self = c.args.self.now in
    let hand = c.args.hand.now in
    HasReached-sent hand c.remove_first.new.hand self.held (self.held - 1) self.tail
    (omega (arith, c.requires.some)) (omega (arith, c.requires.within))
    c.remove_first.ensures.sectors
    (first_sized hand _ (omega (arith, c.requires.within, c.requires.some)) c.lemma_size.ensures)
    ahead self.stage
    (omega (arith, c.requires.sound.stage, c.requires.sound.closed, c.requires.some))
    c.remove_first.ensures.tail g

pub returns-clause-tail_stays : goal.returns-clause-tail_stays
returns-clause-tail_stays c =
    let self = c.args.self.now in
    tail_moved c.args.hand.now c.remove_first.new.hand self.held (self.held - 1) self.tail self.stage
    c.remove_first.ensures.tail
