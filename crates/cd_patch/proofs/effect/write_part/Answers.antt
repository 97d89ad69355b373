use Rattle.cd_patch.proofs.PartLemmas.{HasPart-copied, HasPart-filled}
use Rattle.cd_patch.proofs.effect.write_part.Goals as goal

pub returns-in-Borrowed : goal.returns-in-Borrowed
returns-in-Borrowed c =
    let part = c.part_of_block-part.result in
    let at = rw (c.len.ensures, c.in-Borrowed.is) at c.part_of_block-part.ensures in
    rw c.in-Borrowed.is
    (HasPart-copied _ _ _ part.place part.first part.end c.in-Borrowed.bytes.now _ _ _
    at c.write_user.ensures.size c.write_user.ensures.made)

pub returns-in-Repeated : goal.returns-in-Repeated
returns-in-Repeated c =
    let part = c.part_of_block-part.result in
    let at = rw (c.len.ensures, c.in-Repeated.is) at c.part_of_block-part.ensures in
    rw c.in-Repeated.is
    (HasPart-filled _ _ _ part.place part.first part.end c.in-Repeated.field-0 c.in-Repeated.value
    _ _ _ at c.write_user-in-Repeated.ensures.size c.write_user-in-Repeated.ensures.made)
