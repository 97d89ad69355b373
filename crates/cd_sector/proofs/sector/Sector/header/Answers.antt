use Rattle.cd_sector.proofs.ContentLemmas.{header_bytes}
use Rattle.cd_sector.proofs.sector.Sector.header.Goals as goal

pub returns : goal.returns
returns c = header_bytes c.self.inside.bytes c.args.self.now c.self.view_is c.self.told
