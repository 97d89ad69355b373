use Rattle.std.proofs.Common.{arith}
use Rattle.hex.specs.Hex.{encode_upper, upper_digits}
use Rattle.hex.proofs.HexLemmas.{length-encode_with}
use Rattle.cd_script.proofs.WritingLemmas.{IsPut-part}
use Rattle.cd_script.proofs.writing.put_hex.Goals as goal

pub returns : goal.returns
returns c =
    let long = length-encode_with upper_digits c.args.bytes.now in
    IsPut-part (encode_upper c.args.bytes.now) c.spell_hex.new.digits c.args.room.now c.args.at _ _
    c.spell_hex.ensures (omega (arith, long)) (omega (arith, long)) (omega arith)
