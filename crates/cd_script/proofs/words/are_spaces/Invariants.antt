use Rattle.std.proofs.Common.{◌≡◌, ℕ, ◌<◌, true, slice_index}
use Rattle.cd_script.specs.Words.{is_space}
use Rattle.cd_script.proofs.words.are_spaces.Given as goal

abbrev pub invariant-loop-byte : goal.invariant-loop-byte
invariant-loop-byte l =
    l.spaces ≡ true → (k : ℕ) → k < l.byte-index → is_space (slice_index l.bytes k) ≡ true
