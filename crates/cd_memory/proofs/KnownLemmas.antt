-- Whether a text is complete, by the failures of its sink.
use Rattle.std.proofs.Common.{◌≡◌, ◌≢◌, ℕ, suc, zero, ◌+◌, ◌-◌, ◌≤◌, Bool, true, false, nat_eq, List, [], ◌∷◌, ◌++◌, length, take, Option, None, Some, refl, sym, ap, ◌∙◌, subst, arith, append-nil}
use Rattle.std.proofs.lemmas.Bool.{ne_eqb}
use Rattle.std.proofs.lemmas.List.{length-take, take-append-le, take_all}
use Rattle.std.proofs.Math.Seq.{take-append-add}
use Rattle.std.specs.Io.KnownBytes.{Appends, Consumes, Keeps}
use Rattle.cd_read.specs.Ends.{MayBeImage, MayBeImageAtEnd}
use Rattle.cd_sector.specs.Image.{image_limit}

-- after one failure the text is not complete
pub cut-by-failure : (complete : Bool) (failures : ℕ) → complete ≡ nat_eq failures 0
    → failures ≡ 1 → complete ≡ false
cut-by-failure complete failures is one = is ∙ ap (λ n. nat_eq n 0) one

pub whole-by-none : (complete : Bool) (failures : ℕ) → complete ≡ nat_eq failures 0
    → failures ≡ 0 → complete ≡ true
whole-by-none complete failures is none = is ∙ ap (λ n. nat_eq n 0) none

pub none-failed : (complete : Bool) (failures : ℕ) → complete ≡ nat_eq failures 0
    → complete ≡ true → failures ≡ 0
none-failed complete zero is all = refl
none-failed complete (suc n) is all =
    let some : suc n ≢ 0 = λ e. cc in
    let no : true ≡ false = sym all ∙ is ∙ ne_eqb (suc n) 0 some in cc

pub some-failed : (complete : Bool) (failures : ℕ) → complete ≡ nat_eq failures 0
    → complete ≡ false → failures ≢ 0
some-failed complete failures is part none =
    let no : false ≡ true = sym part ∙ is ∙ ap (λ n. nat_eq n 0) none in cc
