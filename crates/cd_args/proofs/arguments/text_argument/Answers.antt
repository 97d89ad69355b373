use Rattle.std.proofs.Common.{rules}
use Rattle.cd_args.proofs.arguments.text_argument.Goals as goal

pub returns-clause-rule : goal.returns-clause-rule
returns-clause-rule c = search rules
