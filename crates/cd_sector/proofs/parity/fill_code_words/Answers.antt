use Rattle.cd_sector.proofs.ParityLemmas.{AllCodeWords-filled}
use Rattle.cd_sector.proofs.parity.fill_code_words.Goals as goal

pub returns-clause-words : goal.returns-clause-words
returns-clause-words c =
    AllCodeWords-filled c.fill_columns.new.bytes c.fill_diagonals.new.bytes
    c.fill_columns.ensures.words c.fill_diagonals.ensures.stays c.fill_diagonals.ensures.words
