use Rattle.std.proofs.Common.{◌≡◌, length, arith}
use Rattle.cd_code.proofs.FoldingLemmas.{IsFolded-block}
use Rattle.cd_code.proofs.folding.Folded.with_block.Goals as goal

pub returns : goal.returns
returns c = λ v h.
    let block = c.args.block.now in
    let long : length block ≡ 64 = omega arith in
    IsFolded-block v c.args.self.older c.args.self.newer c.fold_step-first.result
    c.fold_step-second.result c.fold_step-third.result c.fold_step-fourth.result
    block h long
    (rw c.load16.ensures at c.fold_step-first.ensures)
    (rw c.load16-2.ensures at c.fold_step-second.ensures)
    (rw c.load16-3.ensures at c.fold_step-third.ensures)
    (rw c.load16-4.ensures at c.fold_step-fourth.ensures)
