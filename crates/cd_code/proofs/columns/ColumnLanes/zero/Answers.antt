use Rattle.cd_code.proofs.ColumnLemmas.{AreSums-none}
use Rattle.cd_code.proofs.columns.ColumnLanes.zero.Goals as goal

pub returns : goal.returns
returns c = record {
  front = AreSums-none c.zero.result c.zero.ensures.plain c.zero.ensures.weighted;
  middle = AreSums-none c.zero-2.result c.zero-2.ensures.plain c.zero-2.ensures.weighted;
  back = AreSums-none c.zero-3.result c.zero-3.ensures.plain c.zero-3.ensures.weighted;
}
