use Rattle.std.proofs.Common.{ℕ, List, Ok, rules}
use Rattle.cd_host.specs.Hosting.{Hosting}
use Rattle.cd_program.specs.Program.{DoesReport, TakesImage}
use Rattle.cd_report.specs.Running.{RunsReport}
use Rattle.cd_report.specs.Report.{ReportSpec}
use Rattle.cd_stream.specs.Stream.{Incoming, Outgoing}
use Rattle.cd_program.proofs.jobs.open_and_audit.Goals as goal

-- in this form `search` finds the state of the image afterwards, and no name of the code is cited
reported : {H I O T : Type 0} {come : I → Incoming} {gone : O → Outgoing} {on : Hosting H I O}
    {host host' : H} {before after : Outgoing} {status : ℕ} {spec : ReportSpec T}
    {status_of : T → ℕ} {name : List ℕ}
    → (image : I) × (left : I) × TakesImage on name host (Ok image) host'
    × RunsReport spec status_of (come image) (come left) before after status
    → DoesReport come gone on host' after status spec status_of name host before
reported all = DoesReport.reported all.0 all.1 all.2 all.3

pub returns-in-Ok : goal.returns-in-Ok
returns-in-Ok g c = reported (search rules)
