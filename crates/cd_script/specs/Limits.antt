-- The limits of the script language. Each number is defined only here.
use Rattle.std.specs.Prelude.{ℕ, ◌-◌, ◌^◌}

-- the most bytes of a text: 64 MiB
abbrev pub text_limit : ℕ
text_limit = 67108864

-- the most patches of a script
abbrev pub patch_limit : ℕ
patch_limit = 65535

-- the most bytes that a patch changes
abbrev pub bytes_limit : ℕ
bytes_limit = 4096

-- the last offset in a block
abbrev pub offset_limit : ℕ
offset_limit = 2047

-- the most digits of a number
abbrev pub digit_limit : ℕ
digit_limit = 9

-- the greatest number, so the last block: 999,999,999
abbrev pub number_limit : ℕ
number_limit = 10 ^ digit_limit - 1

-- the minutes of an address are 0 to one less than this
abbrev pub minute_limit : ℕ
minute_limit = 100

-- the seconds of a minute, 0 to one less
abbrev pub second_limit : ℕ
second_limit = 60

-- the fractions of a second, 0 to one less
abbrev pub fraction_limit : ℕ
fraction_limit = 75
