use Rattle.std.proofs.Common.{◌≡◌, true, false, sym, ap, ◌∙◌}
use Rattle.std.specs.Bool.{◌==◌}
use Rattle.cd_sector.proofs.DefectLemmas.{sound-all, unsound-columns, unsound-edc, unsound-zeros}
use Rattle.cd_sector.proofs.defects.is_sound.Goals.{then-has_zeros, else-has_zeros, then-has_edc, else-has_edc}
use Rattle.cd_sector.proofs.defects.is_sound.Goals as goal

pub returns-then-count_broken_columns-eq0 : goal.returns-then-count_broken_columns-eq0
returns-then-count_broken_columns-eq0 c = elim c.if-has_edc.branch [
  | then-has_edc w ↦ elim c.if-has_zeros.branch [
    | then-has_zeros v ↦
        ap (λ n. n == 0) c.count_broken_diagonals.ensures
        ∙ sound-all c.args.bytes.now (sym c.has_zeros.ensures ∙ v.if-has_zeros.true)
        (sym v.has_edc.ensures ∙ sym v.value-is ∙ w.if-has_edc.true)
        (ap (λ n. n == 0) (sym w.count_broken_columns.ensures)
        ∙ sym w.value-is ∙ c.if-count_broken_columns-eq0.true)
    | else-has_zeros v ↦
        let both : true ≡ false =
        sym w.if-has_edc.true ∙ v.value-is ∙ v.if-has_zeros.false in absurd cc
  ]
  | else-has_edc w ↦ let both : true ≡ false =
      sym c.if-count_broken_columns-eq0.true ∙ w.value-is ∙ w.if-has_edc.false in absurd cc
]

pub returns-else-count_broken_columns-eq0 : goal.returns-else-count_broken_columns-eq0
returns-else-count_broken_columns-eq0 c =
    let s = c.args.bytes.now in
    c.if-count_broken_columns-eq0.false
    ∙ elim c.if-has_zeros.branch [
      | else-has_zeros v ↦ unsound-zeros s (sym c.has_zeros.ensures ∙ v.if-has_zeros.false)
      | then-has_zeros v ↦ elim c.if-has_edc.branch [
        | then-has_edc w ↦
            unsound-columns s (ap (λ n. n == 0) (sym w.count_broken_columns.ensures)
            ∙ sym w.value-is ∙ c.if-count_broken_columns-eq0.false)
        | else-has_edc w ↦
            unsound-edc s (sym v.has_edc.ensures ∙ sym v.value-is ∙ w.if-has_edc.false)
      ]
    ]
