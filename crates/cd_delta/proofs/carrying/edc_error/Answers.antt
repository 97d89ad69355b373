use Rattle.std.proofs.Common.{◌≡◌, ap, length, take, arith, ◌∙◌}
use Rattle.std.specs.Prelude.{slice_range}
use Rattle.std.specs.Int.{from_le_bytes, w32}
use Rattle.cd_code.specs.Edc.{IsEdc}
use Rattle.cd_code.specs.Field.{AreBytes}
use Rattle.cd_delta.proofs.CarryLemmas.{StoresEdc-read}
use Rattle.cd_delta.proofs.carrying.edc_error.Goals as goal

pub returns : goal.returns
returns c =
    let s = c.args.s.now in
    let same = c.bytes-bytes.ensures.bytes in
    let size : length s ≡ 2352 = rw same at c.bytes-bytes.ensures.size in
    let each : AreBytes s = rw same at c.bytes-bytes.ensures.each in
    let word : IsEdc (take 2064 s) c.edc_of.result = rw same at c.edc_of.ensures.word in
    let read = c.stored_edc.ensures ∙ ap (λ v. from_le_bytes w32 (slice_range v 2064 2068)) same in
    StoresEdc-read s c.edc_of.result c.stored_edc.result size each word (omega arith) read
