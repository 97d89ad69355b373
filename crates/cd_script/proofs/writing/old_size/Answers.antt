use Rattle.std.proofs.Common.{◌+◌, ◌*◌, length, ap, sym, ◌∙◌, arith}
use Rattle.hex.specs.Hex.{upper_digits}
use Rattle.hex.proofs.HexLemmas.{length-encode_with}
use Rattle.cd_script.specs.Writing.{old_part}
use Rattle.cd_script.proofs.writing.old_size.Goals as goal

pub returns-in-Some-clause-size : goal.returns-in-Some-clause-size
returns-in-Some-clause-size c =
    ap (λ n. 5 + 2 * n) (ap length c.as_slice.ensures)
    ∙ omega (arith, length-encode_with upper_digits c.in-Some.old)
    ∙ sym (ap (λ was. length (old_part was)) c.in-Some.is)
