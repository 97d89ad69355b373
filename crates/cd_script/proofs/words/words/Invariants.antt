use Rattle.std.proofs.Common.{◌≡◌, ◌<◌, ◌++◌, length}
use Rattle.cd_script.specs.declared.words.TheConstants.{MOST_WORDS}
use Rattle.cd_script.specs.Words.{words}
use Rattle.cd_script.proofs.words.words.Given as goal

abbrev pub invariant-loop-end : goal.invariant-loop-end
invariant-loop-end l = (l.words ++ words l.rest ≡ words l.line) × (length l.words < MOST_WORDS)

abbrev pub decreases-loop-end : goal.decreases-loop-end
decreases-loop-end l = length l.rest
