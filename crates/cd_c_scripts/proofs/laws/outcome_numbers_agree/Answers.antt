use Rattle.std.proofs.Common.{refl}
use Rattle.cd_patch.specs.declared.outcome.Outcome.TheVariants.{Applied, Damaged, Differs, NoBlock, NotMode1}
use Rattle.cd_c_scripts.proofs.laws.outcome_numbers_agree.Goals as goal

pub returns : goal.returns
returns c Applied place = refl
returns c (NotMode1 block) place = refl
returns c (Damaged block) place = refl
returns c (NoBlock block) place = refl
returns c (Differs block offset) place = refl
