use Rattle.std.proofs.Common.{◌≡◌, refl, sym, ap, ◌∙◌, slice_range}
use Rattle.std.specs.Int.{from_le_bytes, w32}
use Rattle.cd_sector.specs.Consistent.{consistent, header_of}
use Rattle.cd_repair.proofs.RoundLemmas.{light_near}
use Rattle.cd_repair.proofs.correcting.correct_by_parity.Goals as goal

pub returns-then-not-is_confirmed-clause-repairs : goal.returns-then-not-is_confirmed-clause-repairs
returns-then-not-is_confirmed-clause-repairs c = λ t light damaged.
    let is : c.corrected-corrected.result ≡ t =
    c.corrected-corrected.ensures t (light_near c.args.sector.now t light) in
    absurd (cc (
      c.is_confirmed.ensures.other (ap header_of is ∙ sym light.header)
          (ap (λ s. from_le_bytes w32 (slice_range s 2064 2068)) is ∙ sym light.edc)
          (ap consistent is ∙ light.sound),
      c.if-not-is_confirmed.true,
    ))

pub returns-clause-repairs : goal.returns-clause-repairs
returns-clause-repairs c = λ t light damaged.
    (refl, c.corrected-corrected.ensures t (light_near c.args.sector.now t light))
