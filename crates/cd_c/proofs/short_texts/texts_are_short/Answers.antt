use Rattle.cd_c.proofs.TextSizeLemmas.{texts-short}
use Rattle.cd_c.proofs.short_texts.texts_are_short.Goals as goal

pub returns : goal.returns
returns c = texts-short
