use Rattle.std.proofs.Common.{rules}
use Rattle.cd_script.specs.Address.{header_bytes}
use Rattle.cd_script.proofs.address.header_bytes.Goals as goal

pub returns-in_err-bcd_below-2 : goal.returns-in_err-bcd_below-2
unfolding header_bytes
returns-in_err-bcd_below-2 c = search rules

pub returns-in_err-bcd_below-3 : goal.returns-in_err-bcd_below-3
unfolding header_bytes
returns-in_err-bcd_below-3 c = search rules

pub returns : goal.returns
unfolding header_bytes
returns c = search rules
