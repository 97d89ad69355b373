-- Lemmas about the sectors and the tail of an image.
use Rattle.std.proofs.Common.{◌≡◌, ℕ, zero, suc, ◌+◌, ◌*◌, ◌/◌, ◌<◌, ◌≤◌, List, [], ◌∷◌, ◌++◌, length, take, drop, sym, ap, ◌∙◌, subst, arith, append_assoc, length-append, take_at, drop_at, take-append-drop, refl}
use Rattle.std.specs.List.{All}
use Rattle.std.specs.Simd.{first_chunks}
use Rattle.std.proofs.lemmas.List.{drop-drop, length-drop}
use Rattle.std.proofs.lemmas.List.Elements.{All-head, All-tail}
use Rattle.cd_sector.proofs.general.Chunks.{length-first_chunks, first_chunks-each}
use Rattle.cd_sector.specs.Image.{IsCut, bytes_of, sectors, tail}

-- a sector followed by more bytes
pub sectors-sector : (sector more : List ℕ) → length sector ≡ 2352
    → sectors (sector ++ more) ≡ sector ∷ sectors more
unfolding sectors
sectors-sector sector more size =
    let all = length-append sector more in
    let quotient : length (sector ++ more) / 2352 ≡ suc (length more / 2352) = omega arith in
    ap (λ k. first_chunks 2352 k (sector ++ more)) quotient
    ∙ ap (λ s. s ∷ first_chunks 2352 (length more / 2352) (drop 2352 (sector ++ more)))
    (take_at sector more 2352 size)
    ∙ ap (λ xs. sector ∷ first_chunks 2352 (length more / 2352) xs) (drop_at sector more 2352 size)

-- fewer bytes than a sector
pub sectors-short : (more : List ℕ) → length more < 2352 → sectors more ≡ []
unfolding sectors
sectors-short more short =
    let none : length more / 2352 ≡ 0 = omega arith in
    ap (λ k. first_chunks 2352 k more) none

-- the tail after n sectors
pub length-tail : (read rest : List ℕ) (n : ℕ) → length read ≡ 2352 * n → length rest < 2352
    → length (tail (read ++ rest)) ≡ length rest
unfolding tail
length-tail read rest n whole short =
    let all = length-append read rest in
    length-drop (2352 * (length (read ++ rest) / 2352)) (read ++ rest) ∙ omega arith

-- an image has no more sectors than bytes, and its tail is not longer than the image
pub length-sectors-le : (image : List ℕ) → length (sectors image) ≤ length image
unfolding sectors
length-sectors-le image = omega (arith, length-first_chunks 2352 (length image / 2352) image)

pub length-tail-le : (image : List ℕ) → length (tail image) ≤ length image
unfolding tail
length-tail-le image = omega (arith, length-drop (2352 * (length image / 2352)) image)

-- ---- the cut

first_chunks-bytes_of : (n k : ℕ) (xs : List ℕ)
    → bytes_of (first_chunks n k xs) ++ drop (n * k) xs ≡ xs
first_chunks-bytes_of n zero xs = let none : n * 0 ≡ 0 = omega arith in ap (λ m. drop m xs) none
first_chunks-bytes_of n (suc k) xs =
    let others = bytes_of (first_chunks n k (drop n xs)) in
    let further : n * suc k ≡ n + n * k = omega arith in
    ap (λ m. (take n xs ++ others) ++ drop m xs) further
    ∙ ap (λ l. (take n xs ++ others) ++ l) (sym (drop-drop (n * k) n xs))
    ∙ append_assoc (take n xs) others (drop (n * k) (drop n xs))
    ∙ ap (λ l. take n xs ++ l) (first_chunks-bytes_of n k (drop n xs))
    ∙ take-append-drop n xs

pub IsCut-sectors : (image : List ℕ) → IsCut image (sectors image) (tail image)
unfolding sectors tail
IsCut-sectors image = record {
  each = first_chunks-each 2352 (length image / 2352) image (omega arith);
  short = omega (arith, length-drop (2352 * (length image / 2352)) image);
  joined = first_chunks-bytes_of 2352 (length image / 2352) image;
}

tail-sector : (sector more : List ℕ) → length sector ≡ 2352 → tail (sector ++ more) ≡ tail more
unfolding tail
tail-sector sector more size =
    let all = length-append sector more in
    let further : 2352 * (length (sector ++ more) / 2352) ≡ 2352 + 2352 * (length more / 2352) =
    omega arith in
    ap (λ m. drop m (sector ++ more)) further
    ∙ sym (drop-drop (2352 * (length more / 2352)) 2352 (sector ++ more))
    ∙ ap (drop (2352 * (length more / 2352))) (drop_at sector more 2352 size)

tail-short : (more : List ℕ) → length more < 2352 → tail more ≡ more
unfolding tail
tail-short more short =
    let none : length more / 2352 ≡ 0 = omega arith in ap (λ k. drop (2352 * k) more) none

-- sectors and a tail that are joined are cut into the same sectors and tail
pub cut_of_joined : (whole : List (List ℕ)) (rest : List ℕ)
    → All (λ sector. length sector ≡ 2352) whole → length rest < 2352
    → (whole ≡ sectors (bytes_of whole ++ rest)) × (rest ≡ tail (bytes_of whole ++ rest))
cut_of_joined [] rest each short = (sym (sectors-short rest short), sym (tail-short rest short))
cut_of_joined (sector ∷ others) rest each short =
    let size = All-head (λ s. length s ≡ 2352) sector others each in
    let inner =
    cut_of_joined others rest (All-tail (λ s. length s ≡ 2352) sector others each) short in
    let grouped = append_assoc sector (bytes_of others) rest in (
      ap (λ ss. sector ∷ ss) inner.0 ∙ sym (sectors-sector sector (bytes_of others ++ rest) size)
          ∙ ap sectors (sym grouped),
      inner.1 ∙ sym (tail-sector sector (bytes_of others ++ rest) size) ∙ ap tail (sym grouped),
    )

pub IsCut-only : (image : List ℕ) (whole : List (List ℕ)) (rest : List ℕ) → IsCut image whole rest
    → (whole ≡ sectors image) × (rest ≡ tail image)
IsCut-only image whole rest cut =
    subst (λ bytes. (whole ≡ sectors bytes) × (rest ≡ tail bytes)) cut.joined
    (cut_of_joined whole rest cut.each cut.short)

-- sectors followed by more bytes
pub sectors-bytes_of : (whole : List (List ℕ)) (more : List ℕ)
    → All (λ sector. length sector ≡ 2352) whole
    → sectors (bytes_of whole ++ more) ≡ whole ++ sectors more
sectors-bytes_of [] more each = refl
sectors-bytes_of (sector ∷ others) more each =
    ap sectors (append_assoc sector (bytes_of others) more)
    ∙ sectors-sector sector (bytes_of others ++ more)
    (All-head (λ s. length s ≡ 2352) sector others each)
    ∙ ap (λ ss. sector ∷ ss)
    (sectors-bytes_of others more (All-tail (λ s. length s ≡ 2352) sector others each))
