use Rattle.cd_sector.proofs.sector.Sector.bytes.Goals as goal

pub returns : goal.returns
returns c = record {
  bytes = c.self.view_is;
  size = c.self.invariant.0;
  each = c.self.invariant.1;
}
