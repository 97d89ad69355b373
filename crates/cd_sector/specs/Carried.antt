-- A sector whose damage is carried to different content: the new sector has the defects of the old
-- one, part by part, and no others (ECMA-130, 14 and Annex A). The sector may be of any kind; only
-- the law about consistent sectors needs the mode byte 01.
use Rattle.std.specs.Prelude.{◌≡◌, ℕ, List, length, slice_range}
use Rattle.cd_code.specs.Field.{AreBytes}
use Rattle.cd_sector.specs.Consistent.{header_of, user_of}
use Rattle.cd_sector.specs.Defect.{defect_of}

-- the bytes in the place of the sync field
unfoldable pub sync_of : List ℕ → List ℕ
sync_of s = slice_range s 0 12

-- `new` has this header and this user data, and the sync bytes and the defect of `old`: the same
-- bytes in the Intermediate field, the same remainder of the EDC's division, and the same 276
-- syndromes
pub record IsCarried (old header user new : List ℕ) : Type 0 where
  pub size : length new ≡ 2352
  pub bytes : AreBytes new
  pub same_sync : sync_of new ≡ sync_of old
  pub has_header : header_of new ≡ header
  pub has_user : user_of new ≡ user
  pub same_defect : defect_of new ≡ defect_of old
