use Rattle.std.proofs.Common.{◌%◌, get_or, refl}
use Rattle.cd_code.proofs.general.Tables.{equal_below}
use Rattle.cd_delta.specs.declared.changes.TheConstants.{AROUND}
use Rattle.cd_delta.proofs.changes.around.Goals as goal

pub returns : goal.returns
returns c =
    equal_below (λ k. get_or AROUND k 0) (λ k. k % 26) 78 refl c.args.steps c.requires
