use Rattle.cd_sector.proofs.DefectLemmas.{consistent-decided}
use Rattle.cd_sector.proofs.laws.consistent_by_parts.Goals as goal

pub returns : goal.returns
returns c = consistent-decided
