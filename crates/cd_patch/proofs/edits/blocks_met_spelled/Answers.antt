use Rattle.std.proofs.Common.{ap, ◌∙◌}
use Rattle.cd_patch.specs.Blocks.{blocks_met, blocks_spanned}
use Rattle.cd_patch.proofs.edits.blocks_met_spelled.Goals as goal

pub returns-clause-number : goal.returns-clause-number
unfolding blocks_met
returns-clause-number c =
    c.blocks_spanned.ensures.number
    ∙ ap (blocks_spanned c.args.patch.now.offset) c.spelled_len.ensures
