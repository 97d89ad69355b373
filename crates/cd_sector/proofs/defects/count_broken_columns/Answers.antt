use Rattle.std.proofs.Common.{rules}
use Rattle.cd_code.specs.CodeWords.{column_of}
use Rattle.cd_sector.proofs.DefectLemmas.{broken_of}
use Rattle.cd_sector.proofs.defects.count_broken_columns.Goals as goal

pub returns : goal.returns
returns c =
    let sums = c.all_column_sums-sums.result in
    broken_of (column_of c.args.bytes.now) 86 c.count_broken.result sums.plain sums.weighted
    (search rules) c.all_column_sums-sums.ensures
    (c.count_broken.ensures (column_of c.args.bytes.now))
