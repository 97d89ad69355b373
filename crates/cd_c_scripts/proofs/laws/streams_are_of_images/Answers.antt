use Rattle.std.proofs.Common.{[]}
use Rattle.cd_c_scripts.proofs.PieceLemmas.{streams}
use Rattle.cd_c_scripts.proofs.laws.streams_are_of_images.Goals as goal

pub returns : goal.returns
returns c carry base pieces ps outcomes image out h =
    streams carry base pieces ps outcomes [] image out h
