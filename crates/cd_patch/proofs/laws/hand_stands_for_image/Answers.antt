use Rattle.std.proofs.Common.{sym}
use Rattle.cd_patch.proofs.HandLemmas.{Effect-put_back, outcome-hand}
use Rattle.cd_patch.proofs.laws.hand_stands_for_image.Goals as goal

pub returns : goal.returns
returns c carry base p sectors changed kept =
    (sym (outcome-hand carry p base sectors kept), Effect-put_back carry p base sectors changed kept)
