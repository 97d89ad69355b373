use Rattle.std.proofs.Common.{refl}
use Rattle.cd_args.proofs.fault.LineFault.parser_text.Goals as goal

pub returns-in-NoMemory : goal.returns-in-NoMemory
returns-in-NoMemory c = λ _. refl
