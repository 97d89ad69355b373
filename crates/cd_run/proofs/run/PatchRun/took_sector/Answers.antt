use Rattle.std.proofs.Common.{[], arith}
use Rattle.std.specs.List.{slice_index_or}
use Rattle.std.proofs.Math.ListN.{length-take}
use Rattle.cd_run.proofs.RunningLemmas.{Reached-sector}
use Rattle.cd_run.proofs.PlaceLemmas.{one_place_more}
use Rattle.cd_run.proofs.run.PatchRun.took_sector.Goals as goal

pub returns-clause-goes : goal.returns-clause-goes
returns-clause-goes c = λ carry taken left base seen done outcomes hand size ahead g.
    let self = c.args.self.now in
    rw (one_place_more hand self.held size, c.requires.open)
    (Reached-sector ahead (rw c.requires.open at g) (slice_index_or hand self.held []) size
    (omega (arith, length-take self.held hand, c.requires.room)) c.requires.few)
