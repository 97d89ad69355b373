use Rattle.std.proofs.Common.{◌≡◌, ℕ, ◌<◌, ◌≤◌, ◌⊎◌, bit_xor, get_or}
use Rattle.cd_code.specs.Field.{double}
use Rattle.cd_code.proofs.lanes.add_rest.Given as goal

abbrev pub invariant-loop-i : goal.invariant-loop-i
invariant-loop-i l = record {
  plain : (c : ℕ) → l.at ≤ c → c < l.i
      → get_or l.plain c 0 ≡ bit_xor (get_or l.initial.plain c 0) (get_or l.row c 0);
  plain_other : (c : ℕ) → (c < l.at) ⊎ (l.i ≤ c) → get_or l.plain c 0 ≡ get_or l.initial.plain c 0;
  weighted : (c : ℕ) → l.at ≤ c → c < l.i
      → get_or l.weighted c 0 ≡ bit_xor (double (get_or l.initial.weighted c 0)) (get_or l.row c 0);
  weighted_other : (c : ℕ) → (c < l.at) ⊎ (l.i ≤ c)
      → get_or l.weighted c 0 ≡ get_or l.initial.weighted c 0;
}
