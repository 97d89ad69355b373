use Rattle.cd_report.proofs.RunLemmas.{AreMaximal-runs, runs-only, kinds_of-runs}
use Rattle.cd_report.proofs.laws.runs_spell_kinds.Goals as goal

pub returns : goal.returns
returns c = λ kinds. (kinds_of-runs kinds, AreMaximal-runs kinds, runs-only kinds)
