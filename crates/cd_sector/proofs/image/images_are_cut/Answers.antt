use Rattle.cd_sector.proofs.ImageLemmas.{IsCut-only, IsCut-sectors}
use Rattle.cd_sector.proofs.image.images_are_cut.Goals as goal

pub returns : goal.returns
returns c = λ image. (IsCut-sectors image, IsCut-only image)
