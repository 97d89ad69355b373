-- Plumbing of `edc_of`: the division by the EDC's generator, sixteen bytes at a time
-- (ECMA-130, 14).
use Rattle.std.specs.Prelude.{◌≡◌, ℕ, List, ◌++◌, length, take, drop, replicate, bit_xor}
use Rattle.std.specs.Simd.Lanes.{zip2}
use Rattle.cd_code.specs.Edc.{bits, remainder}

-- sixteen bytes, to which the bytes 16, 28, and 31 places before each are added
abbrev pub with_folded : List ℕ → List ℕ → List ℕ → List ℕ
with_folded older newer bytes =
    zip2 bit_xor
    (zip2 bit_xor (zip2 bit_xor bytes newer) (take 16 (drop 4 (older ++ newer))))
    (take 16 (drop 1 (older ++ newer)))

-- a list has the remainder of 32 bytes: the older sixteen, and the newer sixteen after the older
-- ones are added to them (the bytes before are added already)
pub record IsFolded (v older newer : List ℕ) : Type 0 where
  pub older_size : length older ≡ 16
  pub newer_size : length newer ≡ 16
  pub same : remainder (bits v) ≡ remainder
      (bits (older ++ with_folded (replicate 16 0) older newer))
