use Rattle.std.proofs.Common.{ap}
use Rattle.std.specs.Int.{from_le_bytes, w32}
use Rattle.cd_sector.proofs.DefectLemmas.{consistent-decided}
use Rattle.cd_repair.proofs.SyncLemmas.{same-edc, same-header}
use Rattle.cd_repair.proofs.correcting.correct_sector.Goals as goal

pub returns-in-NoSync-clause-header : goal.returns-in-NoSync-clause-header
returns-in-NoSync-clause-header c =
    same-header c.restore_sync.new.sector c.args.sector.now c.restore_sync.ensures.rest

pub returns-in-NoSync-clause-edc : goal.returns-in-NoSync-clause-edc
returns-in-NoSync-clause-edc c =
    ap (from_le_bytes w32)
    (same-edc c.restore_sync.new.sector c.args.sector.now c.restore_sync.ensures.rest)

pub returns-in-NoSync-clause-keeps : goal.returns-in-NoSync-clause-keeps
returns-in-NoSync-clause-keeps c = λ sound.
    absurd (cc (((consistent-decided c.args.sector.now).0 sound).mode, c.in-NoSync.ensures))
