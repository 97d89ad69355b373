use Rattle.std.proofs.Common.{◌≡◌, ℕ, arith, get_or, rules}
use Rattle.std.specs.Char.{is_ascii_hexdigit}
use Rattle.std.proofs.lemmas.List.Folds.{list_all_more}
use Rattle.hex.specs.Hex.{is_hex_digit}
use Rattle.cd_script.proofs.hex_word.are_hex_digits.Goals as goal

same_digits : (b : ℕ) → is_ascii_hexdigit b ≡ is_hex_digit b
same_digits b = grind arith

pub loop-digit-preserved : goal.loop-digit-preserved
loop-digit-preserved c =
    let i = c.loop-digit.digit-index in
    let more = list_all_more is_hex_digit c.args.word.now i 0 c.loop-digit-test.true in
    let digit = same_digits (get_or c.args.word.now i 0) in
    search (rules, more, digit)
