-- The numbers that words spell.
use Rattle.std.specs.Prelude.{ℕ, ◌+◌, ◌-◌, ◌*◌, ◌&&◌, nat_le, List, length, fold, Option, Some, None, if◌then◌else◌}
use Rattle.std.specs.Char.{is_ascii_digit}
use Rattle.std.specs.List.{list_all}
use Rattle.cd_script.specs.Limits.{digit_limit}

-- the number that decimal digits spell
abbrev pub digits_value : List ℕ → ℕ
digits_value = fold (λ n b. 10 * n + (b - 48)) 0

-- the number of 1 to `digit_limit` decimal digits
unfoldable pub number : List ℕ → Option ℕ
number w =
    if nat_le 1 (length w) && nat_le (length w) digit_limit && list_all is_ascii_digit w
    then Some (digits_value w)
    else None
