use Rattle.std.proofs.Common.{◌+◌, ap, ◌∙◌}
use Rattle.cd_code.specs.CodeWords.{place_of}
use Rattle.cd_delta.proofs.changes.diagonal_changes.Goals as goal

pub returns-clause-first : goal.returns-clause-first
returns-clause-first c =
    c.change_at.ensures.place
    ∙ ap (λ n. place_of c.args.cell.plane (1118 + n)) c.around-diagonal.ensures

pub returns-clause-second : goal.returns-clause-second
returns-clause-second c =
    c.change_at-2.ensures.place
    ∙ ap (λ n. place_of c.args.cell.plane (1144 + n)) c.around-diagonal.ensures
