use Rattle.std.proofs.Common.{◌≤◌, IfSome, subst}
use Rattle.cd_report.proofs.OpenRunLemmas.{last_line-given}
use Rattle.cd_report.proofs.listing.send_last.Goals as goal

pub returns-in-Some : goal.returns-in-Some
returns-in-Some g c =
    let ordered =
    subst (λ run. IfSome run (λ r. r.first ≤ r.last)) c.in-Some.is c.requires.ordered in
    rw (last_line-given c.args.run c.in-Some.run' c.in-Some.is ordered) assumption
