use Rattle.cd_run.proofs.RunningLemmas.{Reached-copied}
use Rattle.cd_run.proofs.run.PatchRun.copied.Goals as goal

pub returns-clause-goes : goal.returns-clause-goes
returns-clause-goes c = λ carry taken left base seen done outcomes more hand ahead sized size g.
    rw (c.requires.empty, c.requires.open)
    (Reached-copied c.args.count more (rw (c.requires.empty, c.requires.open) at g) ahead sized size
    c.requires.few)
