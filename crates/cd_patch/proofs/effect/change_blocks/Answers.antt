use Rattle.std.proofs.Common.{◌≡◌, [], sym, subst}
use Rattle.std.proofs.lemmas.List.Elements.{All-get_or}
use Rattle.cd_sector.specs.Consistent.{IsConsistent}
use Rattle.cd_sector.specs.Kind.{kind_of}
use Rattle.cd_sector.specs.declared.kinds.SectorKind.TheVariants.{Mode1}
use Rattle.cd_patch.proofs.PartLemmas.{MadeBelow-more, read_old}
use Rattle.cd_patch.proofs.TakingLemmas.{part_by}
use Rattle.cd_patch.proofs.effect.change_blocks.Goals as goal

pub change_sector-requires-clause-mode : goal.change_sector-requires-clause-mode
change_sector-requires-clause-mode c =
    subst (λ s. kind_of s ≡ Mode1)
    (sym (read_old c.index-sectors-k.result c.loop-k.invariant c.loop-k-test.true))
    (All-get_or (λ s. kind_of s ≡ Mode1) c.args.sectors.now c.loop-k.k [] c.loop-k-test.true
    c.requires.mode)

pub change_sector-requires-clause-sound : goal.change_sector-requires-clause-sound
change_sector-requires-clause-sound c = λ asked.
    subst IsConsistent
    (sym (read_old c.index-sectors-k.result c.loop-k.invariant c.loop-k-test.true))
    (All-get_or IsConsistent c.args.sectors.now c.loop-k.k [] c.loop-k-test.true
    (c.requires.sound asked))

pub loop-k-preserved : goal.loop-k-preserved
loop-k-preserved c =
    let rule = part_by c.args.carry c.args.patch.now in
    MadeBelow-more rule c.loop-k.k c.args.sectors.now c.loop-k.sectors c.change_sector.new.sector
    c.loop-k.invariant c.loop-k-test.true
    (subst (λ before. rule c.loop-k.k before c.change_sector.new.sector)
    (read_old c.index-sectors-k.result c.loop-k.invariant c.loop-k-test.true)
    c.change_sector.ensures)
