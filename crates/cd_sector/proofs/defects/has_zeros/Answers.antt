use Rattle.std.proofs.Common.{◌≡◌, ℕ, List, [], ◌∷◌, length, refl, ap, ap₂, ◌∙◌, arith, zero, suc, ◌&&◌}
use Rattle.std.specs.Prelude.{nat_eq, replicate}
use Rattle.std.specs.Bool.{◌==◌}
use Rattle.std.specs.List.{list_all, slice_range}
use Rattle.std.specs.Cmp.Lexicographic.{pointwise}
use Rattle.std.proofs.lemmas.List.{take_all}
use Rattle.std.proofs.lemmas.Bool.Decides.{nat_tests}
use Rattle.cd_sector.proofs.defects.has_zeros.Goals as goal

-- a comparison with zero is the same from either side
same : (x : ℕ) → nat_eq 0 x ≡ (x == 0)
same x = grind (arith, nat_tests)

-- to compare a list with zeros of its own length is to test it for zeros
zeros : (n : ℕ) (xs : List ℕ) → length xs ≡ n
    → pointwise nat_eq (replicate n 0) xs ≡ list_all (λ b. b == 0) xs
zeros zero [] is = refl
zeros zero (x ∷ xs) is = absurd (omega (arith, is))
zeros (suc n) [] is = absurd (omega (arith, is))
zeros (suc n) (x ∷ xs) is = ap₂ (λ a b. a && b) (same x) (zeros n xs (omega (arith, is)))

pub returns : goal.returns
returns c =
    let part = slice_range c.args.bytes.now 2068 2076 in
    let size : length part ≡ 8 = omega (arith, c.told-bytes) in
    c.starts_with.ensures.value
    ∙ ap (pointwise nat_eq (replicate 8 0)) (take_all 8 part (omega (arith, size)))
    ∙ zeros 8 part size
