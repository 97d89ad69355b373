use Rattle.cd_patch.proofs.SequenceLemmas.{PatchSequence-append}
use Rattle.cd_c_scripts.proofs.laws.pieces_follow.Goals as goal

pub returns : goal.returns
returns c carry ps ps' outcomes outcomes' base old middle new h k =
    PatchSequence-append carry ps ps' outcomes outcomes' base old middle new h k
