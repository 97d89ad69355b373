-- An image: a list of bytes, divided from its front into whole sectors, and a tail that is shorter
-- than a sector.
use Rattle.std.specs.Prelude.{◌≡◌, ℕ, ◌*◌, ◌/◌, ◌<◌, ◌++◌, All, List, length, drop}
use Rattle.std.specs.List.{flat_map}
use Rattle.std.specs.Simd.{first_chunks}
use Rattle.cd_address.specs.Address.{last_block}
use Rattle.cd_sector.specs.declared.sector.TheConstants.{SECTOR_SIZE}

-- the whole sectors, in order
unfoldable pub sectors : List ℕ → List (List ℕ)
sectors image = first_chunks SECTOR_SIZE (length image / SECTOR_SIZE) image

-- the bytes after the whole sectors
unfoldable pub tail : List ℕ → List ℕ
tail image = drop (SECTOR_SIZE * (length image / SECTOR_SIZE)) image

-- the bytes of sectors
abbrev pub bytes_of : List (List ℕ) → List ℕ
bytes_of whole = flat_map (λ sector. sector) whole

-- the largest number of whole sectors in an image
abbrev pub sector_limit : ℕ
sector_limit = 1000000

-- the largest number of bytes in an image, including its tail
abbrev pub image_limit : ℕ
image_limit = SECTOR_SIZE * sector_limit

-- the largest number that an image's first block may have
abbrev pub base_limit : ℕ
base_limit = last_block

-- these sectors and this tail together are the image
pub record IsCut (image : List ℕ) (whole : List (List ℕ)) (rest : List ℕ) : Type 0 where
  pub each : All (λ sector. length sector ≡ SECTOR_SIZE) whole
  pub short : length rest < SECTOR_SIZE
  pub joined : flat_map (λ sector. sector) whole ++ rest ≡ image

-- each image consists of its sectors and its tail, and divides in no other way
abbrev pub ImagesAreCut : Type 0
ImagesAreCut =
    (image : List ℕ) → IsCut image (sectors image) (tail image)
    × ((whole : List (List ℕ)) (rest : List ℕ) → IsCut image whole rest
    → (whole ≡ sectors image) × (rest ≡ tail image))
