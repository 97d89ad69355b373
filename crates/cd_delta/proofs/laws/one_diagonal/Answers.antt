use Rattle.cd_delta.proofs.PlaceFacts.{one_diagonal-known}
use Rattle.cd_delta.proofs.laws.one_diagonal.Goals as goal

pub returns : goal.returns
returns c = one_diagonal-known
