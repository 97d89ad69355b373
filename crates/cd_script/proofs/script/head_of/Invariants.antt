use Rattle.std.proofs.Common.{◌≡◌, ◌+◌, ◌≤◌, length}
use Rattle.cd_script.specs.Limits.{text_limit}
use Rattle.cd_script.specs.Script.{script_from}
use Rattle.cd_script.proofs.script.head_of.Given as goal

abbrev pub invariant-loop-text : goal.invariant-loop-text
invariant-loop-text l =
    (script_from l.line l.lines ≡ script_from 1 l.initial.lines)
    × (l.line + length l.lines ≤ text_limit + 1)

abbrev pub decreases-loop-text : goal.decreases-loop-text
decreases-loop-text l = length l.lines
