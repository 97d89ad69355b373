use Rattle.std.proofs.Common.{◌≡◌, ℕ, List, length, ap, subst, sym, ◌++◌, ◌∙◌, arith}
use Rattle.std.specs.Prelude.{codes}
use Rattle.hex.specs.Hex.{encode_upper, upper_digits}
use Rattle.hex.proofs.HexLemmas.{length-encode_with}
use Rattle.cd_script.specs.Writing.{IsPut, old_part}
use Rattle.cd_script.proofs.WritingLemmas.{IsPut-append}
use Rattle.cd_script.proofs.writing.put_old.Goals as goal

pub put_hex-requires : goal.put_hex-requires
put_hex-requires c =
    let is = ap (λ t. length (old_part t)) c.in-Some.is in
    let same = ap length c.as_slice.ensures in
    let long = length-encode_with upper_digits c.in-Some.old in
    omega (arith, is, same, long)

pub returns-in-Some : goal.returns-in-Some
returns-in-Some c =
    subst (λ (t : List ℕ). IsPut t c.args.at c.args.room.now c.put_hex.new.room c.put_hex.result)
    (ap (λ (l : List ℕ). codes " was " ++ encode_upper l) c.as_slice.ensures ∙ sym (ap old_part c.in-Some.is))
    (IsPut-append _ _ _ _ _ _ _ _ c.put_text-place.ensures c.put_hex.ensures)
