-- The largest part of an image that a run may have in hand.
use Rattle.std.specs.Prelude.{ℕ, ◌*◌}
use Rattle.cd_sector.specs.declared.sector.TheConstants.{SECTOR_SIZE}
use Rattle.cd_patch.specs.Blocks.{block_limit}

-- the largest number of bytes read and not sent: those of as many sectors as a patch may meet
abbrev pub bytes_in_hand : ℕ
bytes_in_hand = SECTOR_SIZE * block_limit
