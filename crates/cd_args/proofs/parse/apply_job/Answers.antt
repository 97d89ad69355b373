use Rattle.std.proofs.Common.{refl}
use Rattle.cd_args.proofs.parse.apply_job.Goals as goal

pub returns-clause-job : goal.returns-clause-job
returns-clause-job c = (
  refl,
  c.in_ok-image.ensures,
  c.in_ok-script.ensures,
  c.in_ok-out.ensures,
  c.settings_of-base.ensures.has,
)
