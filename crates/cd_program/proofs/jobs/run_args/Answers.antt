use Rattle.std.proofs.Common.{inl, inr, refl}
use Rattle.cd_program.proofs.StatusLemmas.{RunsJob-few, PrintsFault-few}
use Rattle.cd_program.proofs.jobs.run_args.Goals as goal

pub returns-in-Ok-clause-does : goal.returns-in-Ok-clause-does
returns-in-Ok-clause-does g c =
    inl (
      c.in-Ok.job,
      assumption c.in-Ok.ensures,
      c.in-Ok.ensures.taken,
      c.in-Ok.ensures.base,
      c.run_job.ensures,
    )

pub returns-in-Err-clause-does : goal.returns-in-Err-clause-does
returns-in-Err-clause-does g c = inr (record {
  unchanged = refl;
  fault = c.in-Err.fault;
  kind = c.in-Err.ensures.kind;
  memory = c.in-Err.ensures.refused;
  done = c.explain.ensures;
})

pub returns-in-Ok-clause-few : goal.returns-in-Ok-clause-few
returns-in-Ok-clause-few g c = RunsJob-few _ _ _ _ _ _ _ _ _ c.run_job.ensures

pub returns-in-Err-clause-few : goal.returns-in-Err-clause-few
returns-in-Err-clause-few g c = PrintsFault-few _ _ _ _ c.explain.ensures
