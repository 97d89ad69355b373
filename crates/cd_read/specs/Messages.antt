-- The messages for a call on an image that ended early.
use Rattle.std.specs.Prelude.{ℕ, List, [], ◌++◌, codes, decimal}
use Rattle.cd_sector.specs.Image.{sector_limit}
use Rattle.cd_read.specs.declared.fault.Fault.{Fault}
use Rattle.cd_read.specs.declared.fault.Fault.TheVariants as fault

-- an image has more sectors than it may have
unfoldable pub long_image : List ℕ
long_image =
    codes "cdpatch: the image has more than " ++ decimal sector_limit ++ codes " sectors\n"

-- a read of an image failed
abbrev pub failed_read : List ℕ
failed_read = codes "cdpatch: reading the image failed\n"

-- the line for an error of a call on an image; a failed log has none
unfoldable pub fault_line : Fault → List ℕ
fault_line fault.Read = failed_read
fault_line fault.Write = codes "cdpatch: writing the output failed\n"
fault_line fault.Log = []
fault_line fault.TooLong = long_image
