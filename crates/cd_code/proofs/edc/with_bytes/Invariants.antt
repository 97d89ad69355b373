use Rattle.std.proofs.Common.{ℕ, List, ◌*◌, ◌+◌, ◌/◌, ◌++◌, length, take}
use Rattle.cd_code.specs.Edc.{IsEdc}
use Rattle.cd_code.proofs.edc.with_bytes.Given as goal

abbrev pub invariant-loop-eight : goal.invariant-loop-eight
invariant-loop-eight l =
    (v : List ℕ) → IsEdc v l.fn.word → IsEdc (v ++ take (l.eight-index * 8) l.bytes) l.word

abbrev pub invariant-loop-byte : goal.invariant-loop-byte
invariant-loop-byte l =
    (v : List ℕ) → IsEdc v l.fn.word
    → IsEdc (v ++ take (length l.bytes / 8 * 8 + l.byte-index) l.bytes) l.word
