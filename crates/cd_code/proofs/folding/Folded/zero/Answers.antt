use Rattle.cd_code.proofs.FoldingLemmas.{IsFolded-nil}
use Rattle.cd_code.proofs.folding.Folded.zero.Goals as goal

pub returns : goal.returns
returns c = IsFolded-nil
