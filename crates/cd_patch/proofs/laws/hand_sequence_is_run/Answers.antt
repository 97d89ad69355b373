use Rattle.cd_patch.proofs.HandLemmas.{from_run, to_run}
use Rattle.cd_patch.proofs.laws.hand_sequence_is_run.Goals as goal

pub returns : goal.returns
returns c carry ps os base old last kept =
    (to_run carry ps os base old last kept, from_run carry ps os base old last kept)
