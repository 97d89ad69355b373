use Rattle.std.proofs.Common.{◌∙◌, arith, refl, sym}
use Rattle.cd_script.proofs.HexLemmas.{hex_odd, hex_other, hex_some, hex_spells}
use Rattle.cd_script.proofs.hex_word.HexWord.new.Goals as goal

pub returns-then-word-ne0 : goal.returns-then-word-ne0
returns-then-word-ne0 c = hex_odd c.args.word.now (omega arith)

pub returns-then-not-are_hex_digits : goal.returns-then-not-are_hex_digits
returns-then-not-are_hex_digits c =
    hex_other c.args.word.now (sym c.are_hex_digits.ensures ∙ c.if-not-are_hex_digits.true)

pub invariant_of-result : goal.invariant_of-result
invariant_of-result c =
    hex_some c.args.word.now (omega arith)
    (sym c.are_hex_digits.ensures ∙ c.if-not-are_hex_digits.false)

pub returns : goal.returns
returns c =
    sym (hex_spells c.args.word.now _
    (hex_some c.args.word.now (omega arith)
    (sym c.are_hex_digits.ensures ∙ c.if-not-are_hex_digits.false)) refl)
