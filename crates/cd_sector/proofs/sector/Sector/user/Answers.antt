use Rattle.std.proofs.Common.{ap}
use Rattle.cd_sector.specs.Consistent.{user_of}
use Rattle.cd_sector.proofs.sector.Sector.user.Goals as goal

pub returns-clause-user : goal.returns-clause-user
unfolding user_of
returns-clause-user c = ap user_of c.self.view_is
