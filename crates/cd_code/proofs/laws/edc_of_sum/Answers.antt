use Rattle.cd_code.proofs.EdcLemmas.{IsEdc-sum, remainder-sum}
use Rattle.cd_code.proofs.laws.edc_of_sum.Goals as goal

pub returns-clause-words : goal.returns-clause-words
returns-clause-words c = IsEdc-sum

pub returns-clause-remainders : goal.returns-clause-remainders
returns-clause-remainders c = remainder-sum
