use Rattle.std.proofs.Common.{Result, Some, subst, sym}
use Rattle.std.specs.Prelude.{IfOk}
use Rattle.cd_script.specs.declared.fault.ScriptFault.{ScriptFault}
use Rattle.cd_script.specs.ByLine.{KeepsToLimits}
use Rattle.cd_script.specs.declared.by_line.LineContent.{LineContent}
use Rattle.cd_script.proofs.ByLineLemmas.{meaning_keeps}
use Rattle.cd_script.proofs.by_line.read_line.Goals as goal

pub returns-in-Some-clause-limits : goal.returns-in-Some-clause-limits
returns-in-Some-clause-limits c =
    subst (λ (r : Result LineContent ScriptFault). IfOk r KeepsToLimits) (sym c.content_below.ensures)
    (meaning_keeps (Some c.in-Some.version) c.args.line c.args.earlier c.args.text.now)
