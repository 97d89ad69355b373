use Rattle.std.proofs.Common.{arith}
use Rattle.cd_code.proofs.EdcTableLemmas.{word_at-IsEdc}
use Rattle.cd_code.proofs.edc.word_of.Goals as goal

pub returns : goal.returns
returns c = word_at-IsEdc c.args.zeros c.args.byte c.requires (omega arith)
