-- The numbers of a patch's outcomes in C calls, as in `enum cdpatch_result`.
use Rattle.std.specs.Prelude.{ℕ, ◌==◌, Option, Some, None, if◌then◌else◌}
use Rattle.cd_patch.specs.declared.outcome.Outcome.{Outcome}
use Rattle.cd_patch.specs.declared.outcome.Outcome.TheVariants.{Applied, Damaged, Differs, NoBlock, NotMode1}

-- the record is not a valid patch
abbrev pub no_patch : ℕ
no_patch = 6

-- the number of an outcome
abbrev pub outcome_number : Outcome → ℕ
outcome_number Applied = 0
outcome_number (NotMode1 block) = 1
outcome_number (Damaged block) = 2
outcome_number (NoBlock block) = 4
outcome_number (Differs block offset) = 5

-- the outcome of a number, for this block and offset
abbrev pub outcome_of : ℕ → ℕ → ℕ → Option Outcome
outcome_of number block offset =
    if number == 0 then Some Applied
    else if number == 1 then Some (NotMode1 block)
    else if number == 2 then Some (Damaged block)
    else if number == 4 then Some (NoBlock block)
    else if number == 5 then Some (Differs block offset)
    else None

-- the block that refused a patch; 0 if it was accepted
abbrev pub outcome_block : Outcome → ℕ
outcome_block Applied = 0
outcome_block (NotMode1 block) = block
outcome_block (Damaged block) = block
outcome_block (NoBlock block) = block
outcome_block (Differs block offset) = block

-- the offset of the user byte that differs in that block; 0 for every other outcome
abbrev pub outcome_offset : Outcome → ℕ
outcome_offset Applied = 0
outcome_offset (NotMode1 block) = 0
outcome_offset (Damaged block) = 0
outcome_offset (NoBlock block) = 0
outcome_offset (Differs block offset) = offset
