-- The numbers that calls of C return, as in `enum cdpatch_result`.
use Rattle.std.specs.Prelude.{ℕ, ◌+◌, nat_lt, Bool, not, if◌then◌else◌, List}
use Rattle.cd_sector.specs.Consistent.{consistent, is_mode1}
use Rattle.cd_sector.specs.Kind.{kind_of}

-- the sector is changed
abbrev pub done : ℕ
done = 0

-- the sector is not of Mode 1
abbrev pub not_mode1 : ℕ
not_mode1 = 1

-- the sector is damaged, and the change does not carry damage over
abbrev pub damaged : ℕ
damaged = 2

-- the bytes are not within the user data
abbrev pub out_of_range : ℕ
out_of_range = 3

-- 1 for true, 0 for false
abbrev pub as_byte : Bool → ℕ
as_byte b = if b then 1 else 0

-- whether this number of bytes at an offset is within the 2048 bytes of user data
abbrev pub is_inside : ℕ → ℕ → Bool
is_inside offset count = nat_lt (offset + count) 2049

-- the result of a change that carries damage over, by the sector and whether the change is inside
abbrev pub carry_result : List ℕ → Bool → ℕ
carry_result sector inside =
    if not (is_mode1 (kind_of sector)) then not_mode1 else if inside then done else out_of_range

-- the result of a change that refuses a damaged sector: by the kind, then damage, then the range
abbrev pub change_result : List ℕ → Bool → ℕ
change_result sector inside =
    if not (is_mode1 (kind_of sector)) then not_mode1
    else if not (consistent sector) then damaged
    else if inside then done
    else out_of_range
