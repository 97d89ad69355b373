use Rattle.std.proofs.Common.{List, ℕ, length, refl, ap, arith, ◌∙◌}
use Rattle.std.proofs.lemmas.List.{take_at}
use Rattle.cd_script.proofs.HexLemmas.{decode_sized-hex}
use Rattle.cd_script.proofs.hex_word.HexWord.decode.Goals as goal

pub unwrap-requires : goal.unwrap-requires
unwrap-requires c =
    let read =
    rw (decode_sized-hex c.self.inside.digits.now c.args.self.now
    (length c.as_mut_slice.result.now) c.self.invariant c.self.view_is
    (omega (arith, c.in_ok-octets.ensures.len))) at c.decode_to_slice.ensures.value in
    rw read.0 refl

pub returns : goal.returns
returns c =
    let read =
    rw (decode_sized-hex c.self.inside.digits.now c.args.self.now
    (length c.as_mut_slice.result.now) c.self.invariant c.self.view_is
    (omega (arith, c.in_ok-octets.ensures.len))) at c.decode_to_slice.ensures.value in
    let long = ap (λ (l : List ℕ). length l) read.1 in
    c.new.ensures ∙ take_at c.decode_to_slice.new.out _ c.in_ok-octets.octets.len
    (omega (arith, c.in_ok-octets.ensures.len)) ∙ read.1
