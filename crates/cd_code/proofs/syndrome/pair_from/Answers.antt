use Rattle.std.proofs.Common.{bit_xor, ap, ◌∙◌, arith}
use Rattle.cd_code.specs.Field.{double, product}
use Rattle.cd_code.proofs.SyndromeLemmas.{IsCodeWord-pair}
use Rattle.cd_code.proofs.syndrome.pair_from.Goals as goal

pub returns : goal.returns
returns c = λ v _ firsts seconds.
    let fours = c.doubled-2.ensures ∙ ap double c.doubled.ensures in
    IsCodeWord-pair v c.args.plain c.args.weighted c.times-first.result (omega arith) firsts seconds
    (c.times-first.ensures ∙ ap (λ z. product 244 (bit_xor c.args.plain z)) fours)
