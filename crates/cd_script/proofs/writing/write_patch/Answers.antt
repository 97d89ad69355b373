use Rattle.std.proofs.Common.{◌≡◌, List, ℕ, ap, subst, sym, refl, ◌∙◌}
use Rattle.cd_script.specs.declared.patch.Edit.TheVariants.{Address, Fill, Put, Rebuild}
use Rattle.cd_script.specs.Spelling.{edit_words, spelled_line}
use Rattle.cd_script.specs.Writing.{IsLineWritten}
use Rattle.cd_script.proofs.WritingLemmas.{written-reads}
use Rattle.cd_script.proofs.writing.write_patch.Goals as goal

pub returns-in-Put-clause-reads : goal.returns-in-Put-clause-reads
returns-in-Put-clause-reads c = λ fits.
    written-reads c.args.patch.now c.requires _ c.in-Put.is _ _ _ c.write_put.ensures fits

pub returns-in-Fill-clause-reads : goal.returns-in-Fill-clause-reads
returns-in-Fill-clause-reads c = λ fits.
    written-reads c.args.patch.now c.requires _ c.in-Fill.is _ _ _
    (subst (λ (t : List ℕ). IsLineWritten t c.args.room.now c.write_line.new.room c.write_line.result)
    c.fill_line.ensures c.write_line.ensures) fits

pub returns-in-Rebuild-clause-reads : goal.returns-in-Rebuild-clause-reads
unfolding edit_words
returns-in-Rebuild-clause-reads c = λ fits.
    written-reads c.args.patch.now c.requires _ c.in-Rebuild.is _ _ _
    (subst (λ (t : List ℕ). IsLineWritten t c.args.room.now c.write_line-in-Rebuild.new.room c.write_line-in-Rebuild.result)
    c.rebuild_line.ensures c.write_line-in-Rebuild.ensures) fits

pub returns-in-Address-clause-reads : goal.returns-in-Address-clause-reads
unfolding edit_words
returns-in-Address-clause-reads c = λ fits.
    written-reads c.args.patch.now c.requires _ c.in-Address.is _ _ _
    (subst (λ (t : List ℕ). IsLineWritten t c.args.room.now c.write_line-in-Address.new.room c.write_line-in-Address.result)
    c.address_line.ensures c.write_line-in-Address.ensures) fits
