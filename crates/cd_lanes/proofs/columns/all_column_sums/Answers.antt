use Rattle.cd_lanes.proofs.SumLemmas.{SumsOf-columns}
use Rattle.cd_lanes.proofs.columns.all_column_sums.Goals as goal

pub returns : goal.returns
returns c =
    let chunk = rw c.unwrap.ensures at c.first_chunk.ensures.cases in
    SumsOf-columns c.args.bytes.now c.unwrap.result.now c.column_sums.result.plain
    c.column_sums.result.weighted chunk.same
    c.column_sums.ensures.plain c.column_sums.ensures.weighted
