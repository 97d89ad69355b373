use Rattle.cd_c_scripts.proofs.PieceLemmas.{fit_all}
use Rattle.cd_c_scripts.proofs.laws.pieces_are_of_images.Goals as goal

pub returns : goal.returns
returns c carry is_last ps outcomes front old new more base first e last fit h =
    fit_all carry is_last ps outcomes front old new more base first e last fit h
