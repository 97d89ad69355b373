use Rattle.std.proofs.Common.{sym}
use denote.Enum.Bare.{same_false}
use Rattle.cd_read.specs.contracts.fault.Fault.{the_type}
use Rattle.cd_read.proofs.printing.report_fault.Goals as goal

pub returns-clause-line : goal.returns-clause-line
returns-clause-line g c = (
  λ same. absurd (same_false the_type c.args.fault c.args.own (sym c.if-eq.ensures) same),
  λ _. rw (← c.fault_line.ensures, ← c.as_slice.ensures.bytes) c.print_and_fail.ensures.line,
)
