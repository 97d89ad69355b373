use Rattle.std.proofs.Common.{◌++◌, ℕ, List, refl, ap, arith, drop, ◌∙◌, take, length, length-take}
use Rattle.cd_script.proofs.HexLemmas.{decode_sized-hex}
use Rattle.cd_script.proofs.hex_word.HexWord.decode_to.Goals as goal

pub unwrap-requires : goal.unwrap-requires
unwrap-requires c =
    let read =
    rw (decode_sized-hex c.self.inside.digits.now c.args.self.now
    (length (take c.len-count.result c.args.room.now)) c.self.invariant c.self.view_is
    (simp length-take (omega arith))) at c.decode_to_slice.ensures.value in
    rw read.0 refl

pub returns : goal.returns
returns c =
    let read =
    rw (decode_sized-hex c.self.inside.digits.now c.args.self.now
    (length (take c.len-count.result c.args.room.now)) c.self.invariant c.self.view_is
    (simp length-take (omega arith))) at c.decode_to_slice.ensures.value in
    ap (λ (l : List ℕ). l ++ drop c.len-count.result c.args.room.now) read.1
    ∙ ap (λ (n : ℕ). c.args.self.now ++ drop n c.args.room.now) c.len-count.ensures
