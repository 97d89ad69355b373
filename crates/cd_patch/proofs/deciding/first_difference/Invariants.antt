use Rattle.std.proofs.Common.{◌≡◌, ℕ, ◌+◌, ◌<◌, get_or}
use Rattle.cd_patch.proofs.DecidingLemmas.{user_byte}
use Rattle.cd_patch.proofs.deciding.first_difference.Given as goal

abbrev pub invariant-loop-i : goal.invariant-loop-i
invariant-loop-i l = (k : ℕ) → k < l.i → user_byte l.sectors (l.offset + k) ≡ get_or l.old k 0
