use Rattle.std.proofs.Common.{ap, ◌∙◌, map}
use Rattle.std.specs.Char.{to_ascii_uppercase}
use Rattle.cd_script.proofs.WritingLemmas.{map-encode_lower}
use Rattle.cd_script.proofs.writing.spell_hex.Goals as goal

pub returns : goal.returns
returns c =
    let written = rw c.unwrap.ensures at c.encode_to_slice.ensures.written in
    c.make_ascii_uppercase.ensures.after ∙ ap (map to_ascii_uppercase) written
    ∙ map-encode_lower c.args.bytes.now (λ k. (c.type_inv.bytes k).fits)
