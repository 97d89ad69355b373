use Rattle.std.proofs.Common.{◌∙◌}
use Rattle.cd_sector.proofs.DefectLemmas.{consistent-false, consistent-sector}
use Rattle.cd_sector.proofs.defects.is_consistent.Goals as goal

pub returns-then-has_mode1 : goal.returns-then-has_mode1
returns-then-has_mode1 c =
    let same = c.bytes.ensures.bytes in
    let whole = consistent-sector c.args.s.now (rw same at c.bytes.ensures.size)
    (rw same at c.bytes.ensures.each) in
    rw (whole, ← c.has_mode1.ensures, c.if-has_mode1.true, ← same) c.is_sound.ensures

pub returns-else-has_mode1 : goal.returns-else-has_mode1
returns-else-has_mode1 c =
    c.if-has_mode1.false
    ∙ consistent-false c.args.s.now c.has_mode1.result c.has_mode1.ensures c.if-has_mode1.false
