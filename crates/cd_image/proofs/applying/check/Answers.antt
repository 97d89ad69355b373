use Rattle.cd_image.proofs.ApplyReportLemmas.{Applies-begins, Applies-log_bytes, Applies-same}
use Rattle.cd_image.proofs.applying.check.Goals as goal

pub returns-clause-log : goal.returns-clause-log
returns-clause-log g c =
    Applies-log_bytes _ (Applies-same c.patches.ensures.patches c.apply_patches.ensures)

pub returns-clause-begins : goal.returns-clause-begins
returns-clause-begins g c =
    Applies-begins _ (Applies-same c.patches.ensures.patches c.apply_patches.ensures)
