-- The place that C gets for the outcome of a patch. The numbers of outcomes are those of
-- `enum cdpatch_result`.
use Rattle.cd_patch.specs.declared.outcome.Outcome.{Outcome}
use Rattle.cd_patch.specs.declared.outcome.Outcome.TheVariants.{Applied, Damaged, Differs, NoBlock, NotMode1}
use Rattle.cd_c_scripts.specs.declared.patches.Place.{Place}

-- the place after an outcome: the block at which the patch is refused, and the byte that differs or
-- 0
abbrev pub place_after : Outcome → Place → Place
place_after Applied place = place
place_after (NotMode1 block) place = record { block = block; offset = 0 }
place_after (Damaged block) place = record { block = block; offset = 0 }
place_after (NoBlock block) place = record { block = block; offset = 0 }
place_after (Differs block offset) place = record { block = block; offset = offset }
