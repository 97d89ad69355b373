use Rattle.std.proofs.Common.{rules}
use Rattle.cd_delta.proofs.UserLemmas.{IsChanged-same}
use Rattle.cd_delta.proofs.header.put_address.Goals as goal

pub returns : goal.returns
returns c = IsChanged-same c.change_bytes.ensures (search rules) (search rules)
