use Rattle.std.proofs.Common.{rules}
use Rattle.cd_args.proofs.settings.is_set.Goals as goal

pub returns-in-Some : goal.returns-in-Some
returns-in-Some c = search rules
