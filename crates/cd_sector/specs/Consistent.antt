-- A consistent Mode 1 sector, and its content (ECMA-130, 14).
use Rattle.std.specs.Prelude.{◌≡◌, ℕ, ◌==◌, ◌<◌, ◌≤◌, nat_lt, Bool, true, false, ◌&&◌, List, length, take, slice_index, slice_range}
use Rattle.std.specs.List.{list_all}
use Rattle.cd_code.specs.Edc.{bits, remainder}
use Rattle.cd_code.specs.Field.{AreBytes}
use Rattle.cd_code.specs.CodeWords.{AllCodeWords}
use Rattle.cd_sector.specs.Defect.{defect_of, is_sound}
use Rattle.cd_sector.specs.Kind.{kind_of}
use Rattle.cd_sector.specs.declared.kinds.SectorKind.{SectorKind}
use Rattle.cd_sector.specs.declared.kinds.SectorKind.TheVariants.{NoSync, Mode0, Mode1, Mode2, Other}

-- the header: minute, second, fraction and mode
unfoldable pub header_of : List ℕ → List ℕ
header_of s = slice_range s 12 16

-- the user data
unfoldable pub user_of : List ℕ → List ℕ
user_of s = slice_range s 16 2064

-- whether a kind is Mode 1
abbrev pub is_mode1 : SectorKind → Bool
is_mode1 NoSync = false
is_mode1 Mode0 = false
is_mode1 Mode1 = true
is_mode1 Mode2 = false
is_mode1 Other = false

-- 2352 bytes of Mode 1 without a defect
unfoldable pub consistent : List ℕ → Bool
consistent s =
    (((length s == 2352) && list_all (λ b. nat_lt b 256) s) && is_mode1 (kind_of s))
    && is_sound (defect_of s)

-- a consistent sector, part by part: the parts that `consistent` tests
pub record IsConsistent (s : List ℕ) : Type 0 where
  pub size : length s ≡ 2352
  pub bytes : AreBytes s
  pub mode : kind_of s ≡ Mode1
  pub zeros : (i : ℕ) → 2068 ≤ i → i < 2076 → slice_index s i ≡ 0
  pub edc : remainder (bits (take 2068 s)) ≡ 0
  pub words : AllCodeWords s
