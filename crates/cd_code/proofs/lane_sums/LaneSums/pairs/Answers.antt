use Rattle.std.proofs.Common.{◌≡◌, ◌<◌, rules, length, get_or, bit_xor, ap, ◌∙◌, arith}
use Rattle.std.proofs.lemmas.Nat.{xor_comm}
use Rattle.std.proofs.lemmas.Simd.{get_or-zip2}
use Rattle.cd_code.specs.Field.{double, product}
use Rattle.cd_code.proofs.LaneLemmas.{get_or-doubled}
use Rattle.cd_code.proofs.SyndromeLemmas.{IsCodeWord-pair, first_syndrome-lt}
use Rattle.cd_code.proofs.lane_sums.LaneSums.pairs.Goals as goal

pub returns : goal.returns
returns c = λ i h v bytes firsts seconds.
    let plain = c.args.self.plain in
    let weighted = c.args.self.weighted in
    let first = c.times_inverse_of_three-first.result in
    let p = get_or plain i 0 in
    let w = get_or weighted i 0 in
    let a = get_or first i 0 in
    let plain_len : length plain ≡ 32 = search rules in
    let first_len : length first ≡ 32 = search rules in
    let below : p < 256 = (let e = first_syndrome-lt v bytes in rw firsts at e) in
    let once = ap (λ u. get_or u i 0) c.doubled_lanes.ensures ∙ get_or-doubled weighted i in
    let sum =
    c.doubled_and_added-sum.ensures i h ∙ ap (λ z. bit_xor (double z) p) once
    ∙ xor_comm (double (double w)) p in
    let first_is : a ≡ product 244 (bit_xor p (double (double w))) =
    c.times_inverse_of_three-first.ensures i h ∙ ap (product 244) sum in
    let second_is = get_or-zip2 bit_xor plain first i 0 0 0 (omega arith) (omega arith) in
    rw (← second_is) at (IsCodeWord-pair v p w a below firsts seconds first_is)
