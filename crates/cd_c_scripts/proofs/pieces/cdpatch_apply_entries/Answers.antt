use Rattle.std.proofs.Common.{◌≡◌, subst}
use Rattle.cd_c_scripts.specs.Entries.{IsNoEntry}
use Rattle.cd_c_scripts.proofs.pieces.cdpatch_apply_entries.Goals as goal

pub returns-clause-entry : goal.returns-clause-entry
returns-clause-entry c = λ why v is e at.
    let same : c.in-Some.version ≡ v = cc (is, c.in-Some.ensures.some) in
    subst (λ w. IsNoEntry c.args.job.now.script.now w c.args.job.now.flags e) same
    (c.apply_entries-stop.ensures.entry why e at)
