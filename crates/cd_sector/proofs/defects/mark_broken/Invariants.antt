use Rattle.std.proofs.Common.{◌≡◌, ℕ, ◌<◌, cond, get_or}
use Rattle.cd_sector.specs.Defect.{is_broken}
use Rattle.cd_sector.proofs.defects.mark_broken.Given as goal

abbrev pub invariant-loop-i : goal.invariant-loop-i
invariant-loop-i l = record {
  below : (k : ℕ) → k < l.i
      → get_or l.marks k 0 ≡ cond {A = ℕ} (is_broken (get_or l.plain k 0, get_or l.weighted k 0)) 1 0;
}
