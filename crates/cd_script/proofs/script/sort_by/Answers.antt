use Rattle.std.proofs.lemmas.Result.{on_ok_weaker}
use Rattle.cd_script.proofs.ParseLemmas.{in_order}
use Rattle.cd_script.proofs.script.sort_by.Goals as goal

pub returns : goal.returns
returns g c =
    on_ok_weaker c.sort_by_key.result
    (λ sorted.
    in_order _ _ sorted c.sort_by_key.ensures.stable c.requires.block) c.sort_by_key.ensures.sorted
