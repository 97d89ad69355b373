use Rattle.cd_code.specs.CodeWords.{diagonal_of}
use Rattle.cd_sector.proofs.DefectLemmas.{marks_of}
use Rattle.cd_sector.proofs.defects.mark_diagonals.Goals as goal

pub returns : goal.returns
returns c = marks_of diagonal_of c.args.s.now c.bytes.result.now 52 c.args.marks.now c.mark_broken.new.marks
    c.all_diagonal_sums-sums.result.plain c.all_diagonal_sums-sums.result.weighted c.told-marks c.bytes.ensures.bytes
    c.all_diagonal_sums-sums.ensures c.mark_broken.ensures
