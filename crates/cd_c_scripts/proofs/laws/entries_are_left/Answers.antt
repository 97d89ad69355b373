use Rattle.cd_c_scripts.proofs.PieceLemmas.{entries_left}
use Rattle.cd_c_scripts.proofs.laws.entries_are_left.Goals as goal

pub returns : goal.returns
returns c text version flags n es ps h = entries_left text version flags n es ps h
