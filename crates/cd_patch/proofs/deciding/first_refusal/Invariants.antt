use Rattle.std.proofs.Common.{◌≡◌, ℕ, ◌+◌}
use Rattle.cd_patch.specs.Deciding.{first_refusal}
use Rattle.cd_patch.specs.Parts.{HaveUsers}
use Rattle.cd_patch.proofs.deciding.first_refusal.Given as goal

abbrev pub invariant-loop-k : goal.invariant-loop-k
invariant-loop-k l =
    ((count : ℕ) → l.k + count ≡ l.count
    → first_refusal l.sectors l.block l.must_be_consistent l.block l.count
    ≡ first_refusal l.sectors l.block l.must_be_consistent (l.block + l.k) count)
    × HaveUsers l.sectors l.k
