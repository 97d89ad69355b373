use Rattle.cd_c_scripts.proofs.PieceLemmas.{entries_of_one}
use Rattle.cd_c_scripts.proofs.laws.entries_are_of_one.Goals as goal

pub returns : goal.returns
returns c text version flags n es ps qs room h g =
    entries_of_one text version flags n es ps qs room h g
