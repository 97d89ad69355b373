use Rattle.cd_run.proofs.LogSizeLemmas.{log-short}
use Rattle.cd_run.proofs.laws.log_is_short.Goals as goal

pub returns : goal.returns
returns c = log-short
