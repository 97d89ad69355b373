use Rattle.std.proofs.Common.{arith}
use Rattle.std.proofs.lemmas.List.{length-take-le}
use Rattle.cd_repair.proofs.correcting.with_sync.Goals as goal

pub copy_from_slice-requires : goal.copy_from_slice-requires
copy_from_slice-requires c =
    length-take-le 12 c.bytes.result.now (omega (arith, c.bytes.ensures.size))
