use Rattle.cd_delta.specs.Writing.{IsWritten}
use Rattle.cd_delta.proofs.byte_by_byte.write_few.Given as goal

abbrev pub invariant-loop-i : goal.invariant-loop-i
invariant-loop-i l = IsWritten l.initial.s l.s l.place l.i l.bytes
