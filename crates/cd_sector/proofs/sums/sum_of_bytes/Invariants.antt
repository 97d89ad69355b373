use Rattle.std.proofs.Common.{◌≡◌, ℕ, ◌<◌, ◌≤◌, length, get_or, bit_xor}
use Rattle.cd_sector.proofs.sums.sum_of_bytes.Given as goal

abbrev pub invariant-loop-i : goal.invariant-loop-i
invariant-loop-i l = record {
  size : length l.sum ≡ 2352;
  below : (k : ℕ) → k < l.i → get_or l.sum k 0 ≡ bit_xor (get_or l.s k 0) (get_or l.t k 0);
  from : (k : ℕ) → l.i ≤ k → get_or l.sum k 0 ≡ get_or l.s k 0;
}
