use Rattle.std.proofs.Common.{subst, sym}
use Rattle.cd_stream.specs.Transfer.{Gives}
use Rattle.cd_host.proofs.ScriptLemmas.{Stops-read_failed}
use Rattle.cd_host.proofs.script.load_script.Goals as goal

pub returns-in-Err-clause-loads : goal.returns-in-Err-clause-loads
returns-in-Err-clause-loads g c = record {
  read = c.in-Err.ensures.read;
  gives = c.in-Err.ensures.gives;
  answers = (
    assumption,
    (
      c.in-Err.fault,
      c.in-Err.ensures.answers,
      rw (← c.load_fault_line.ensures, ← c.as_slice.ensures.bytes) assumption,
    ),
  );
}

pub returns-in-Ok-clause-given : goal.returns-in-Ok-clause-given
returns-in-Ok-clause-given g c =
    subst (Gives _ _) (sym c.in-Ok.ensures.answers.0) c.in-Ok.ensures.gives

pub returns-in-Err-clause-whole : goal.returns-in-Err-clause-whole
returns-in-Err-clause-whole g c = tt

pub returns-in-Err-clause-failed_reads : goal.returns-in-Err-clause-failed_reads
returns-in-Err-clause-failed_reads g c =
    Stops-read_failed c.in-Err.fault c.in-Err.ensures.read (g.I.Source.seen c.args.file.now)
    (g.I.Source.seen c.read_all.new.file) (g.L.Sink.seen c.args.log.now)
    (g.L.Sink.seen c.print_and_fail.new.out) c.print_and_fail.result c.print_and_fail.ensures.status
    c.in-Err.ensures.answers
    (rw (← c.load_fault_line.ensures, ← c.as_slice.ensures.bytes) c.print_and_fail.ensures.line)
