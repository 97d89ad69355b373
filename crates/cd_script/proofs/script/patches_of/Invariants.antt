use Rattle.std.proofs.Common.{◌≡◌, ◌+◌, ◌≤◌, length, vec_len}
use Rattle.cd_script.specs.Limits.{text_limit}
use Rattle.cd_script.specs.Script.{patches_from}
use Rattle.cd_script.proofs.LineLemmas.{with_front}
use Rattle.cd_script.proofs.script.patches_of.Given as goal

abbrev pub invariant-loop-text : goal.invariant-loop-text
invariant-loop-text l =
    (with_front l.patches.items
    (patches_from l.head.version (l.line + 1) (vec_len l.patches) l.lines)
    ≡ patches_from l.head.version (l.head.line + 1) 0 l.initial.lines)
    × (l.line + length l.lines ≤ text_limit)

abbrev pub decreases-loop-text : goal.decreases-loop-text
decreases-loop-text l = length l.lines
