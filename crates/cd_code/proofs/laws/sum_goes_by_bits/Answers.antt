use Rattle.cd_code.proofs.general.Xor.{xor_by_bits}
use Rattle.cd_code.proofs.laws.sum_goes_by_bits.Goals as goal

pub returns : goal.returns
returns c = xor_by_bits
