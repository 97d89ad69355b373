use Rattle.std.proofs.Common.{◌==◌}
use Rattle.memchr.specs.Find.{Nowhere, Passes}
use Rattle.cd_script.proofs.cutting.find_near_feed.Given as goal

abbrev pub invariant-loop-at : goal.invariant-loop-at
invariant-loop-at l = Nowhere (Passes (λ b. b == 10) l.text) 0 l.at
