use Rattle.std.proofs.Common.{◌+◌, ◌-◌, ◌≡◌, inr, get_or, sym, ap, ◌∙◌, arith}
use Rattle.std.proofs.lemmas.List.{get_or-replicate}
use Rattle.cd_code.specs.Edc.{bits, remainder}
use Rattle.cd_code.proofs.general.Lists.{front-same}
use Rattle.cd_code.proofs.EdcLemmas.{after_bits-zero}
use Rattle.cd_sector.proofs.EdcPlaceLemmas.{StoresEdc-remainder}
use Rattle.cd_sector.proofs.encoding.fill_codes.Goals as goal

pub returns-clause-zeros : goal.returns-clause-zeros
returns-clause-zeros c = λ k from below.
    let place : 2068 + (k - 2068) ≡ k = omega arith in
    c.fill_code_words.ensures.stays k below ∙ c.fill_edc.ensures.stays k (inr from)
    ∙ ap (λ n. get_or c.put_part.new.bytes n 0) (sym place)
    ∙ c.put_part.ensures.inside (k - 2068) (omega arith)
    ∙ get_or-replicate 8 (k - 2068) 0 0 (omega arith)

pub returns-clause-edc : goal.returns-clause-edc
returns-clause-edc c =
    let end = c.fill_code_words.new.bytes in
    let edc = c.fill_edc.new.bytes in
    let end_size = c.fill_code_words.array_long in
    let edc_size = c.fill_edc.array_long in
    ap (λ v. remainder (bits v))
    (front-same end edc 2068 (omega arith) (omega arith)
    (λ k h. c.fill_code_words.ensures.stays k (omega arith)))
    ∙ StoresEdc-remainder c.fill_edc.ensures.edc ∙ after_bits-zero 32
