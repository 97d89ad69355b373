use Rattle.std.proofs.Common.{◌*◌, take}
use Rattle.cd_code.specs.Folding.{IsFolded}
use Rattle.cd_code.proofs.edc.edc_of.Given as goal

abbrev pub invariant-loop-block : goal.invariant-loop-block
invariant-loop-block l = IsFolded (take (l.block-index * 64) l.bytes) l.folded.older l.folded.newer
