-- Known bytes of a reader or a writer before and after a call.
use Rattle.std.proofs.Common.{◌≡◌, ◌+◌, ◌≤◌, ℕ, List, [], ◌++◌, Option, None, Some, sym, ap, ◌∙◌, arith, append-nil, length, length-append}
use Rattle.std.specs.Io.KnownBytes.{Appends, Consumes, IsAtEnd}

-- if none of the known bytes is left, all were read
pub consumed_all : (old new : Option (List ℕ)) (read bytes : List ℕ) → Consumes old new read
    → IsAtEnd new → old ≡ Some bytes → (new ≡ Some []) × (read ≡ bytes)
consumed_all None new read bytes consumed end known = cc
consumed_all (Some xs) None read bytes consumed end known = absurd consumed
consumed_all (Some xs) (Some ys) read bytes consumed end known =
    let same : xs ≡ bytes = cc in
    (ap Some end, sym (append-nil read) ∙ ap (λ l. read ++ l) (sym end) ∙ sym consumed ∙ same)

-- the bytes read and the bytes left are all the bytes that there were
pub consumed_length : (old new : Option (List ℕ)) (read bytes left : List ℕ) → Consumes old new read
    → old ≡ Some bytes → new ≡ Some left → length bytes ≡ length read + length left
consumed_length None new read bytes left consumed known telling = cc
consumed_length (Some xs) None read bytes left consumed known telling = cc
consumed_length (Some xs) (Some ys) read bytes left consumed known telling =
    let given : xs ≡ bytes = cc in
    let still : ys ≡ left = cc in
    ap length (sym given ∙ consumed) ∙ length-append read ys
    ∙ ap (λ l. length read + length l) still

-- no more bytes were read than there were
pub consumed_within : (old new : Option (List ℕ)) (read bytes : List ℕ) → Consumes old new read
    → old ≡ Some bytes → length read ≤ length bytes
consumed_within None new read bytes consumed known = cc
consumed_within (Some xs) None read bytes consumed known = absurd consumed
consumed_within (Some xs) (Some ys) read bytes consumed known =
    let given : xs ≡ bytes = cc in
    let size = ap length (sym given ∙ consumed) ∙ length-append read ys in
    omega (arith, size)

pub appended : (old new : Option (List ℕ)) (sent earlier : List ℕ) → Appends old new sent
    → old ≡ Some earlier → new ≡ Some (earlier ++ sent)
appended None new sent earlier went known = cc
appended (Some xs) None sent earlier went known = absurd went
appended (Some xs) (Some ys) sent earlier went known =
    let same : xs ≡ earlier = cc in ap Some went ∙ ap (λ l. Some (l ++ sent)) same
