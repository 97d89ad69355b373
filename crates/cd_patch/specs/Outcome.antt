-- Whether a patch was accepted.
use Rattle.std.specs.Prelude.{Bool, true, false}
use Rattle.cd_patch.specs.declared.outcome.Outcome.{Outcome}
use Rattle.cd_patch.specs.declared.outcome.Outcome.TheVariants.{Applied, Damaged, Differs, NoBlock, NotMode1}

-- whether the outcome is an acceptance
abbrev pub is_applied : Outcome → Bool
is_applied Applied = true
is_applied (NoBlock block) = false
is_applied (NotMode1 block) = false
is_applied (Damaged block) = false
is_applied (Differs block offset) = false
