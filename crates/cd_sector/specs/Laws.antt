-- Laws that follow from the definitions of sectors. Each law is a contract in `laws.rt`.
use Rattle.std.specs.Prelude.{◌≡◌, ◌↔◌, ℕ, IsTrue, List, [], ◌∷◌, ◌++◌, length, slice_index}
use Rattle.cd_code.specs.Field.{AreBytes}
use Rattle.cd_sector.specs.Carried.{IsCarried, sync_of}
use Rattle.cd_sector.specs.Consistent.{IsConsistent, consistent, header_of, user_of}
use Rattle.cd_sector.specs.Defect.{defect_of}

-- `consistent` tests exactly the parts of `IsConsistent`
abbrev pub ConsistentByParts : Type 0
ConsistentByParts = (s : List ℕ) → IsTrue (consistent s) ↔ IsConsistent s

-- two consistent sectors with equal header and user data are equal
abbrev pub SectorIsUnique : Type 0
SectorIsUnique =
    (s t : List ℕ) → IsConsistent s → IsConsistent t → header_of s ≡ header_of t
    → user_of s ≡ user_of t → s ≡ t

-- a consistent sector with this header, whose mode byte is 1, and this user data
pub record IsEncoded (header user s : List ℕ) : Type 0 where
  pub is_consistent : IsConsistent s
  pub has_header : header_of s ≡ header ++ 1 ∷ []
  pub has_user : user_of s ≡ user

-- for any three header bytes and 2048 user bytes there is a consistent sector with them
abbrev pub SectorExists : Type 0
SectorExists =
    (header user : List ℕ) → AreBytes header → length header ≡ 3 → AreBytes user
    → length user ≡ 2048
    → (s : List ℕ) × IsEncoded header user s

-- ---- damage carried

-- sectors with equal sync, header and user bytes and equal defects are equal
abbrev pub SectorByDefect : Type 0
SectorByDefect =
    (s t : List ℕ) → length s ≡ 2352 → AreBytes s → length t ≡ 2352 → AreBytes t
    → sync_of s ≡ sync_of t
    → header_of s ≡ header_of t → user_of s ≡ user_of t → defect_of s ≡ defect_of t → s ≡ t

-- there is at most one carried sector with a given content
abbrev pub CarriedIsUnique : Type 0
CarriedIsUnique =
    (old header user s t : List ℕ) → IsCarried old header user s → IsCarried old header user t
    → s ≡ t

-- for any four header bytes and 2048 user bytes there is a carried sector with them
abbrev pub CarriedExists : Type 0
CarriedExists =
    (old header user : List ℕ) → length old ≡ 2352 → AreBytes old → AreBytes header
    → length header ≡ 4
    → AreBytes user → length user ≡ 2048 → (s : List ℕ) × IsCarried old header user s

-- if a consistent sector is carried to a header with mode byte 1, the new sector is consistent
abbrev pub CarriedOfConsistent : Type 0
CarriedOfConsistent =
    (old header user s : List ℕ) → IsConsistent old → slice_index header 3 ≡ 1
    → IsCarried old header user s → IsConsistent s

-- any consistent sector, carried to the content of a consistent sector, becomes that sector
abbrev pub ConsistentIsCarried : Type 0
ConsistentIsCarried =
    (old s : List ℕ) → IsConsistent old → IsConsistent s → IsCarried old (header_of s) (user_of s) s
