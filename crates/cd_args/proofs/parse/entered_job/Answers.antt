use Rattle.cd_args.proofs.parse.entered_job.Goals as goal

pub returns-in-list-clause-job : goal.returns-in-list-clause-job
returns-in-list-clause-job c = rw c.in-list.is assumption
