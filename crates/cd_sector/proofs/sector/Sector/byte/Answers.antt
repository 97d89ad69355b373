use Rattle.std.proofs.Common.{get_or, ap}
use Rattle.cd_sector.proofs.sector.Sector.byte.Goals as goal

pub returns : goal.returns
returns c = ap (λ v. get_or v c.args.place 0) c.self.view_is
