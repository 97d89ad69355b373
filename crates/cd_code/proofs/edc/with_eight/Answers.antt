use Rattle.std.proofs.Common.{◌≡◌, length, arith}
use Rattle.cd_code.proofs.EdcLemmas.{IsEdc-eight}
use Rattle.cd_code.proofs.edc.with_eight.Goals as goal

pub returns : goal.returns
returns c = λ v h.
    let b = c.args.bytes.now in
    let long : length b ≡ 8 = omega arith in
    IsEdc-eight v b c.to_le_bytes.result c.args.word c.from_le_bytes-front.result
    c.word_of.result c.word_of-2.result c.word_of-3.result c.word_of-4.result
    c.word_of-5.result c.word_of-6.result c.word_of-7.result c.word_of-8.result
    h c.fits-bytes long c.from_le_bytes-front.ensures c.to_le_bytes.ensures
    c.word_of.ensures c.word_of-2.ensures c.word_of-3.ensures c.word_of-4.ensures
    c.word_of-5.ensures c.word_of-6.ensures c.word_of-7.ensures c.word_of-8.ensures
