use Rattle.std.proofs.Common.{not, ap, ◌∙◌}
use Rattle.std.specs.List.{slice_range}
use Rattle.cd_sector.proofs.DefectLemmas.{some_nonzero, defect-zeros, defect-rest, defect-columns, defect-diagonals}
use Rattle.cd_sector.proofs.defects.defect.Goals as goal

pub returns-clause-zeros : goal.returns-clause-zeros
returns-clause-zeros c =
    rw (defect-zeros, ← c.bytes-bytes.ensures.bytes)
    (ap not c.has_zeros.ensures ∙ some_nonzero (slice_range c.bytes-bytes.result.now 2068 2076))

pub returns-clause-edc : goal.returns-clause-edc
returns-clause-edc c =
    rw (defect-rest, ← c.bytes-bytes.ensures.bytes) (ap not c.has_edc.ensures)

pub returns-clause-p : goal.returns-clause-p
returns-clause-p c =
    rw (defect-columns, ← c.bytes-bytes.ensures.bytes) c.count_broken_columns.ensures

pub returns-clause-q : goal.returns-clause-q
returns-clause-q c =
    rw (defect-diagonals, ← c.bytes-bytes.ensures.bytes) c.count_broken_diagonals.ensures
