use Rattle.std.proofs.Common.{arith, rules, refl}
use Rattle.cd_script.proofs.WritingLemmas.{IsPut-part}
use Rattle.cd_script.proofs.writing.put_text.Goals as goal

pub returns : goal.returns
returns c =
    IsPut-part c.args.text.now c.copy_from_slice.new.self c.args.room.now c.args.at _ _ (search rules)
    (omega arith) refl (omega arith)
