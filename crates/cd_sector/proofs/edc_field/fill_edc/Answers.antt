use Rattle.std.proofs.Common.{arith}
use Rattle.cd_sector.proofs.EdcPlaceLemmas.{StoresEdc-put}
use Rattle.cd_sector.proofs.edc_field.fill_edc.Goals as goal

pub returns-clause-edc : goal.returns-clause-edc
returns-clause-edc c =
    StoresEdc-put c.args.bytes.now c.put_edc.new.bytes c.edc_of-word.result c.args.error
    c.told-bytes c.put_edc.array_long (omega arith)
    c.edc_of-word.ensures.word c.put_edc.ensures.word c.put_edc.ensures.stays
