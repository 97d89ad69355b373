use Rattle.cd_code.proofs.FoldingLemmas.{folded_by_position}
use Rattle.cd_code.proofs.folding.fold_step.Goals as goal

pub returns : goal.returns
returns c = folded_by_position c.args.older c.args.newer c.args.bytes c.fits-older.0 c.fits-newer.0
