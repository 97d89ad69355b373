use Rattle.std.proofs.Common.{◌≡◌, ◌≤◌, ◌==◌, drop, length}
use Rattle.memchr.specs.Find.{Nowhere, Passes}
use Rattle.cd_script.proofs.cutting.passed_by_eights.Given as goal

abbrev pub invariant-loop-eight : goal.invariant-loop-eight
invariant-loop-eight l =
    (l.rest ≡ drop l.passed l.text) × (l.passed ≤ length l.text)
    × Nowhere (Passes (λ b. b == 10) l.text) 0 l.passed

abbrev pub decreases-loop-eight : goal.decreases-loop-eight
decreases-loop-eight l = length l.rest
