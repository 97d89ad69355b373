-- Sectors of 2352 bytes, and their bytes.
use Rattle.std.proofs.Common.{◌≡◌, ℕ, ◌*◌, List, [], ◌∷◌, ◌++◌, length, refl, ap, ◌∙◌, arith, append-nil, length-append}
use Rattle.std.specs.Prelude.{All}
use Rattle.std.proofs.lemmas.Grind.{flat_map-append}
use Rattle.std.proofs.lemmas.List.Elements.{All-head, All-push, All-tail}
use Rattle.cd_sector.specs.Image.{bytes_of}
use Rattle.cd_sector.specs.declared.sector.TheConstants.{SECTOR_SIZE}

-- sectors of 2352 bytes
abbrev pub AreSized : List (List ℕ) → Type 0
AreSized whole = All (λ sector. length sector ≡ SECTOR_SIZE) whole

pub AreSized-more : (whole : List (List ℕ)) (sector : List ℕ) → AreSized whole
    → length sector ≡ SECTOR_SIZE → AreSized (whole ++ sector ∷ [])
AreSized-more = All-push (λ t. length t ≡ SECTOR_SIZE)

pub bytes_of-append : (front back : List (List ℕ))
    → bytes_of (front ++ back) ≡ bytes_of front ++ bytes_of back
bytes_of-append front back = flat_map-append (λ sector. sector) front back

pub bytes_of-more : (front : List (List ℕ)) (sector : List ℕ)
    → bytes_of (front ++ sector ∷ []) ≡ bytes_of front ++ sector
bytes_of-more front sector =
    bytes_of-append front (sector ∷ []) ∙ ap (λ l. bytes_of front ++ l) (append-nil sector)

pub length-bytes_of : (whole : List (List ℕ)) → AreSized whole
    → length (bytes_of whole) ≡ 2352 * length whole
length-bytes_of [] each = refl
length-bytes_of (s ∷ ss) each =
    let size = All-head (λ t. length t ≡ SECTOR_SIZE) s ss each in
    let others = length-bytes_of ss (All-tail (λ t. length t ≡ SECTOR_SIZE) s ss each) in
    length-append s (bytes_of ss) ∙ omega arith
