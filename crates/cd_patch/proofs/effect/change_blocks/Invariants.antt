use Rattle.cd_patch.proofs.PartLemmas.{MadeBelow}
use Rattle.cd_patch.proofs.TakingLemmas.{part_by}
use Rattle.cd_patch.proofs.effect.change_blocks.Given as goal

abbrev pub invariant-loop-k : goal.invariant-loop-k
invariant-loop-k l = MadeBelow (part_by l.carry l.patch) l.k l.initial.sectors l.sectors
