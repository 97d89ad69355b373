use Rattle.cd_host.proofs.script.read_script.Goals as goal

pub returns-in-Ok-clause-script : goal.returns-in-Ok-clause-script
returns-in-Ok-clause-script g c = assumption c.in-Ok.ensures

pub returns-in-Err-clause-status : goal.returns-in-Err-clause-status
returns-in-Err-clause-status g c = c.print_and_fail.ensures.status

pub returns-in-Err-clause-line : goal.returns-in-Err-clause-line
returns-in-Err-clause-line g c = (
  c.in-Err.fault,
  record {
    own = λ e is. let same = c.in-Err.ensures.refused e is in cc;
    other = c.in-Err.ensures.err;
  },
  rw (← c.script_fault_line.ensures.line, ← c.as_slice.ensures.bytes) c.print_and_fail.ensures.line,
)
