use Rattle.std.proofs.Common.{refl, arith}
use Rattle.cd_script.proofs.HexLemmas.{decode_sized-hex, one_byte}
use Rattle.cd_script.proofs.hex_word.HexWord.only_byte.Goals as goal

pub unwrap-requires : goal.unwrap-requires
unwrap-requires c =
    let read =
    rw (decode_sized-hex c.self.inside.digits.now c.args.self.now 1 c.self.invariant c.self.view_is
    (omega arith)) at c.decode_to_slice.ensures.value in
    rw read.0 refl

pub returns : goal.returns
returns c =
    let read =
    rw (decode_sized-hex c.self.inside.digits.now c.args.self.now 1 c.self.invariant c.self.view_is
    (omega arith)) at c.decode_to_slice.ensures.value in
    one_byte _ _ c.requires read.1
