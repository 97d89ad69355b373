use Rattle.std.proofs.Common.{◌≡◌, ℕ, List, refl, sym, ap, ◌∙◌}
use Rattle.cd_sector.specs.Consistent.{consistent}
use Rattle.cd_repair.proofs.SyncLemmas.{sync_back}
use Rattle.cd_repair.proofs.correcting.restore_sync.Goals as goal

pub returns-then-not-is_consistent-clause-restores : goal.returns-then-not-is_consistent-clause-restores
returns-then-not-is_consistent-clause-restores c = λ t sound same.
    let is : c.with_sync-restored.result ≡ t =
    sync_back c.args.sector.now t c.with_sync-restored.result c.with_sync-restored.ensures sound same in
    absurd (cc (
      c.is_consistent.ensures,
      ap consistent is ∙ sound,
      c.if-not-is_consistent.true,
    ))

pub returns-clause-restores : goal.returns-clause-restores
returns-clause-restores c = λ t sound same.
    (refl, sync_back c.args.sector.now t c.with_sync-restored.result c.with_sync-restored.ensures sound same)
