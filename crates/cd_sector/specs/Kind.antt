-- The kind of a sector (ECMA-130, 14).
use Rattle.std.specs.Prelude.{ℕ, ◌==◌, if◌then◌else◌, List, [], ◌∷◌, nat_eq, slice_index}
use Rattle.std.specs.List.{starts_with}
use Rattle.cd_sector.specs.declared.kinds.SectorKind.{SectorKind}
use Rattle.cd_sector.specs.declared.kinds.SectorKind.TheVariants.{NoSync, Mode0, Mode1, Mode2, Other}

-- bytes 0 to 11: 00, ten times FF, 00
abbrev pub sync_field : List ℕ
sync_field = 0 ∷ 255 ∷ 255 ∷ 255 ∷ 255 ∷ 255 ∷ 255 ∷ 255 ∷ 255 ∷ 255 ∷ 255 ∷ 0 ∷ []

-- the kind of a sector with a sync field, by its mode byte
abbrev pub kind_of_mode : ℕ → SectorKind
kind_of_mode mode =
    if mode == 0 then Mode0 else if mode == 1 then Mode1 else if mode == 2 then Mode2 else Other

-- the kind of a sector's bytes; byte 15 is the mode byte
unfoldable pub kind_of : List ℕ → SectorKind
kind_of sector =
    if starts_with nat_eq sector sync_field then kind_of_mode (slice_index sector 15) else NoSync

-- a number for each kind
abbrev pub kind_number : SectorKind → ℕ
kind_number NoSync = 0
kind_number Mode0 = 1
kind_number Mode1 = 2
kind_number Mode2 = 3
kind_number Other = 4
