use Rattle.std.proofs.Common.{◌≡◌, ◌%◌, get_or, ap}
use Rattle.cd_code.proofs.EdcLemmas.{IsEdc-push}
use Rattle.cd_code.proofs.edc.with_byte.Goals as goal

pub returns : goal.returns
returns c = λ v h.
    let low : get_or c.to_le_bytes.result 0 0 ≡ c.args.word % 256 =
    ap (λ z. get_or z 0 0) c.to_le_bytes.ensures in
    IsEdc-push v c.args.word c.args.byte c.word_of.result h (rw low at c.word_of.ensures)
