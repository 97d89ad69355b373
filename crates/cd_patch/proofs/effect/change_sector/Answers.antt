use Rattle.std.proofs.Common.{length, sym, ap, ◌∙◌, arith}
use Rattle.cd_patch.proofs.MeaningLemmas.{patch-fits}
use Rattle.cd_patch.proofs.TakingLemmas.{part-address, part-encoded, part-spans}
use Rattle.cd_patch.proofs.effect.change_sector.Goals as goal

pub write_part-requires-clause-few : goal.write_part-requires-clause-few
write_part-requires-clause-few c =
    let row = c.meaning-edit.ensures in
    let spans = part-spans c.args.patch.now c.requires.patch row.keeps_old c.if-edit.true row.address c.in-None.is in
    omega (arith, spans.few, c.requires.met)

pub write_part-requires-clause-some : goal.write_part-requires-clause-some
write_part-requires-clause-some c =
    let row = c.meaning-edit.ensures in
    let spans = part-spans c.args.patch.now c.requires.patch row.keeps_old c.if-edit.true row.address c.in-None.is in
    omega (arith, spans.some, c.requires.met, ap length row.bytes)

pub write_part-requires-clause-room : goal.write_part-requires-clause-room
write_part-requires-clause-room c =
    let row = c.meaning-edit.ensures in
    let spans = part-spans c.args.patch.now c.requires.patch row.keeps_old c.if-edit.true row.address c.in-None.is in
    omega (arith, spans.few, spans.room, ap length row.bytes)

pub returns-in-Some : goal.returns-in-Some
returns-in-Some c =
    part-address _ _ _ _ _ _ (patch-fits c.args.patch.now c.requires.patch)
    (sym c.meaning-edit.ensures.address ∙ c.in-Some.is) c.write_address.ensures

pub returns-else-edit : goal.returns-else-edit
returns-else-edit c =
    let made = c.rebuild.ensures in
    part-encoded _ _ _ _ _ (patch-fits c.args.patch.now c.requires.patch)
    (sym c.meaning-edit.ensures.keeps_old ∙ c.if-edit.false)
    (record { is_consistent = made.consistent; has_header = made.header; has_user = made.user })
