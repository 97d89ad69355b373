use Rattle.std.proofs.Common.{◌≡◌, ◌-◌, ◌*◌, ◌%◌, bit_xor, sym, ap, ◌∙◌, arith}
use Rattle.cd_code.proofs.FieldLemmas.{double-below, double-above}
use Rattle.cd_code.proofs.field.doubled.Goals as goal

pub returns-then-b-lt128 : goal.returns-then-b-lt128
returns-then-b-lt128 c =
    let kept : c.args.b * 2 % 256 ≡ c.args.b * 2 = omega arith in
    kept ∙ sym (double-below c.args.b (omega arith))

pub returns-else-b-lt128 : goal.returns-else-b-lt128
returns-else-b-lt128 c =
    let kept : c.args.b * 2 % 256 ≡ c.args.b * 2 - 256 = omega arith in
    ap (λ z. bit_xor z 29) kept ∙ sym (double-above c.args.b (omega arith))
