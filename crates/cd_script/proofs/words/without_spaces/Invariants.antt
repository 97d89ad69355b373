use Rattle.std.proofs.Common.{◌≡◌, ◌≤◌, length}
use Rattle.cd_script.specs.Words.{words}
use Rattle.cd_script.proofs.words.without_spaces.Given as goal

abbrev pub invariant-loop-front : goal.invariant-loop-front
invariant-loop-front l = (words l.rest ≡ words l.line) × (length l.rest ≤ length l.line)

abbrev pub decreases-loop-front : goal.decreases-loop-front
decreases-loop-front l = length l.rest
