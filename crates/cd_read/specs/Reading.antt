-- The effect of reading the next sector of an image, after `count` others. `list`, `audit`,
-- `apply`, and `check` all read this way.
use Rattle.std.specs.Prelude.{◌≡◌, ℕ, ◌+◌, ◌*◌, ◌<◌, ◌≤◌, false, true, List, length, take, Option}
use Rattle.std.specs.Prelude.{None, Some, Result, Ok, Err}
use Rattle.std.specs.Io.KnownBytes.{Consumes, IsAtEnd}
use Rattle.cd_sector.specs.declared.sector.TheConstants.{SECTOR_SIZE}
use Rattle.cd_sector.specs.Image.{image_limit, sector_limit}
use Rattle.cd_read.specs.declared.fault.Fault.{Fault}
use Rattle.cd_read.specs.declared.fault.Fault.TheVariants.{Log, Read, TooLong, Write}
use Rattle.cd_stream.specs.Stream.{Incoming}

-- a complete sector was read
pub record SectorComes (count : ℕ) (bytes : List ℕ) (image image' : Incoming) : Type 0 where
  pub consumes : Consumes image.rest image'.rest bytes
  pub counted : image'.given ≡ image.given + SECTOR_SIZE
  pub kept : image'.failures ≡ image.failures
  pub unended : image'.ended ≡ false
  pub few : count < sector_limit
  pub size : length bytes ≡ SECTOR_SIZE

-- the source has ended, after fewer bytes than a sector has
pub record EndComes (count left : ℕ) (bytes : List ℕ) (image image' : Incoming) : Type 0 where
  pub short : left < SECTOR_SIZE
  pub consumes : Consumes image.rest image'.rest (take left bytes)
  pub counted : image'.given ≡ image.given + left
  pub size : length (take left bytes) ≡ left
  pub kept : image'.failures ≡ image.failures
  pub at_end : IsAtEnd image'.rest
  pub ended : image'.ended ≡ true
  pub within : SECTOR_SIZE * count + left ≤ image_limit

-- a read has failed after a part of a sector
pub record ReadFails (count : ℕ) (image image' : Incoming) : Type 0 where
  pub came : List ℕ
  pub short : length came < SECTOR_SIZE
  pub consumes : Consumes image.rest image'.rest came
  pub counted : image'.given ≡ image.given + length came
  pub rose : image'.failures ≡ image.failures + 1
  pub unended : image'.ended ≡ false
  pub within : SECTOR_SIZE * count + length came ≤ image_limit

-- a byte was read after the last sector that an image may have
pub record TooMuchComes (count : ℕ) (image image' : Incoming) : Type 0 where
  pub came : List ℕ
  pub one : length came ≡ 1
  pub consumes : Consumes image.rest image'.rest came
  pub counted : image'.given ≡ image.given + length came
  pub kept : image'.failures ≡ image.failures
  pub unended : image'.ended ≡ false
  pub full : SECTOR_SIZE * count ≡ image_limit

-- the call returns the length of the tail once the image has ended
abbrev pub ReadsSector : ℕ → List ℕ → Incoming → Incoming → Result (Option ℕ) Fault → Type 0
ReadsSector count bytes image image' (Ok None) = SectorComes count bytes image image'
ReadsSector count bytes image image' (Ok (Some left)) = EndComes count left bytes image image'
ReadsSector count bytes image image' (Err Read) = ReadFails count image image'
ReadsSector count bytes image image' (Err TooLong) = TooMuchComes count image image'
ReadsSector count bytes image image' (Err Write) = ⊥
ReadsSector count bytes image image' (Err Log) = ⊥
