use Rattle.std.proofs.Common.{rules}
use Rattle.cd_args.proofs.fault.refusal_line.Goals as goal

pub returns : goal.returns
returns c = search rules
