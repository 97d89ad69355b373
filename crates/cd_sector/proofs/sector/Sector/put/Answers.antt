use Rattle.std.proofs.Common.{ap}
use Rattle.std.proofs.Math.ListN.{set}
use Rattle.cd_sector.proofs.sector.Sector.put.Goals as goal

pub returns : goal.returns
returns c = ap (λ v. set v c.args.place c.args.b) c.self.view_is
