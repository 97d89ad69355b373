use Rattle.std.proofs.Common.{refl}
use Rattle.cd_args.proofs.parse.standard_input_job.Goals as goal

pub returns : goal.returns
returns c = (c.in_ok-image.ensures.ok, refl)
