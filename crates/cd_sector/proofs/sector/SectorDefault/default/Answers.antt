use Rattle.cd_sector.proofs.sector.SectorDefault.default.Goals as goal

pub returns : goal.returns
returns c = c.from_bytes.ensures.bytes
