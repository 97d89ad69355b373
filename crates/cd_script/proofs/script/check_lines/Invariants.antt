use Rattle.std.proofs.Common.{◌≡◌, ◌+◌, ◌≤◌, length}
use Rattle.std.specs.Result.{result_err}
use Rattle.cd_script.specs.Limits.{text_limit}
use Rattle.cd_script.specs.Script.{patches_from}
use Rattle.cd_script.proofs.script.check_lines.Given as goal

abbrev pub invariant-loop-text : goal.invariant-loop-text
invariant-loop-text l =
    (result_err (patches_from l.head.version (l.line + 1) l.count l.lines)
    ≡ result_err (patches_from l.head.version (l.head.line + 1) 0 l.initial.lines))
    × (l.line + length l.lines ≤ text_limit) × (l.count ≤ l.line)

abbrev pub decreases-loop-text : goal.decreases-loop-text
decreases-loop-text l = length l.lines
