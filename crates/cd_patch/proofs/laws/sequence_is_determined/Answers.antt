use Rattle.cd_patch.proofs.SequenceLemmas.{PatchSequence-determined}
use Rattle.cd_patch.proofs.laws.sequence_is_determined.Goals as goal

pub returns : goal.returns
returns c = PatchSequence-determined
