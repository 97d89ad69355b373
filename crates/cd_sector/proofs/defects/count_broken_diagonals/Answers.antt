use Rattle.std.proofs.Common.{rules}
use Rattle.cd_code.specs.CodeWords.{diagonal_of}
use Rattle.cd_sector.proofs.DefectLemmas.{broken_of}
use Rattle.cd_sector.proofs.defects.count_broken_diagonals.Goals as goal

pub returns : goal.returns
returns c =
    let sums = c.all_diagonal_sums-sums.result in
    broken_of (diagonal_of c.args.bytes.now) 52 c.count_broken.result sums.plain sums.weighted
    (search rules) c.all_diagonal_sums-sums.ensures
    (c.count_broken.ensures (diagonal_of c.args.bytes.now))
