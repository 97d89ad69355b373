use Rattle.std.proofs.Common.{rules}
use Rattle.cd_delta.proofs.UserLemmas.{IsChanged-same}
use Rattle.cd_delta.proofs.carrying.carry_bytes.Goals as goal

pub returns : goal.returns
returns c = record {
  error = c.edc_error-error.result;
  before = c.edc_error-error.ensures;
  changed = IsChanged-same c.change_bytes.ensures (search rules) (search rules);
}
