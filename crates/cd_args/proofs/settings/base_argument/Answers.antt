use Rattle.std.proofs.Common.{rules}
use Rattle.cd_args.proofs.settings.base_argument.Goals as goal

pub returns-clause-rule : goal.returns-clause-rule
returns-clause-rule c = search rules
