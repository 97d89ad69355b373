use Rattle.std.proofs.Common.{[], arith, take}
use Rattle.std.specs.List.{slice_index_or}
use Rattle.std.proofs.Math.ListN.{length-take}
use Rattle.std.proofs.lemmas.List.{length-take-le}
use Rattle.cd_run.proofs.RunningLemmas.{Reached-end}
use Rattle.cd_run.proofs.run.PatchRun.took_end.Goals as goal

pub returns-clause-goes : goal.returns-clause-goes
returns-clause-goes c = λ carry taken left base seen done outcomes hand long ahead g.
    let self = c.args.self.now in
    let place = slice_index_or hand self.held [] in
    let came = length-take-le c.args.tail place long in
    Reached-end ahead (rw c.requires.open at g) (take c.args.tail place)
    (omega (arith, came, c.requires.short))
    (omega (arith, length-take self.held hand, c.requires.room))
    (omega (arith, came, c.requires.within))
