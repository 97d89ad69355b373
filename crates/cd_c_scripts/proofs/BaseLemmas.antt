-- The base that a script names, one line after the other.
use Rattle.std.proofs.Common.{◌≡◌, ℕ, suc, zero, ◌+◌, ◌-◌, ◌<◌, ◌≤◌, List, [], ◌∷◌, ◌++◌, length, take, drop, get_or, None, Some, Option, refl, sym, ap, ◌∙◌, arith, true, false}
use Rattle.std.proofs.Math.Seq.{drop-drop}
use Rattle.std.proofs.lemmas.List.{take_all}
use Rattle.std.specs.Str.Lines.{lines}
use Rattle.cd_script.specs.Words.{is_space}
use Rattle.cd_c_scripts.specs.Bases.{before, first_of, first_other, named_base, other_base, trimmed}
use Rattle.cd_c_scripts.specs.declared.bases.NamedBase.{NamedBase}

-- a space after other bytes
pub trimmed-space : (line : List ℕ) (k : ℕ) → k < length line → is_space (get_or line k 0) ≡ true
    → trimmed (take k line) ≡ trimmed (take (suc k) line)
trimmed-space [] k inside is = absurd (omega arith)
trimmed-space (b ∷ rest) zero inside is = rw is refl
trimmed-space (b ∷ rest) (suc k) inside is =
    ap (before b) (trimmed-space rest k (omega (arith, inside)) is)

-- any other byte after other bytes
pub trimmed-end : (line : List ℕ) (k : ℕ) → k < length line → is_space (get_or line k 0) ≡ false
    → trimmed (take (suc k) line) ≡ take (suc k) line
trimmed-end [] k inside is = absurd (omega arith)
trimmed-end (b ∷ rest) zero inside is = rw is refl
trimmed-end (b ∷ []) (suc k) inside is = absurd (omega (arith, inside))
trimmed-end (b ∷ c ∷ rest) (suc k) inside is =
    ap (before b) (trimmed-end (c ∷ rest) k (omega (arith, inside)) is)

-- a space at the end of a line
pub space-end : (line : List ℕ) → 0 < length line
    → is_space (get_or line (length line - 1) 0) ≡ true
    → trimmed (take (length line - 1) line) ≡ trimmed line
space-end line some is =
    trimmed-space line (length line - 1) (omega (arith, some)) is
    ∙ ap trimmed (take_all (suc (length line - 1)) line (omega (arith, some)))

-- any other byte at the end of a line
pub word-end : (line : List ℕ) → 0 < length line
    → is_space (get_or line (length line - 1) 0) ≡ false → trimmed line ≡ line
word-end line some is =
    let whole = take_all (suc (length line - 1)) line (omega (arith, some)) in
    ap trimmed (sym whole) ∙ trimmed-end line (length line - 1) (omega (arith, some)) is ∙ whole

-- the first line names no other base
pub other-passed : (base number start size taken : ℕ) (text rest : List ℕ) → rest ≡ drop start text
    → lines rest ≡ take size rest ∷ lines (drop taken rest)
    → None ≡ other_base base (number + 1) (named_base (take size rest))
    → first_other base (number + 1) (lines rest)
    ≡ first_other base (number + 1 + 1) (lines (drop (start + taken) text))
other-passed base number start size taken text rest is cut none =
    ap (first_other base (number + 1)) cut
    ∙ ap (λ o. first_of o (first_other base (number + 1 + 1) (lines (drop taken rest)))) (sym none)
    ∙ ap (λ l. first_other base (number + 1 + 1) (lines l)) (ap (drop taken) is ∙ drop-drop taken start text)

-- the first line names another base
pub other-found : (base number size taken : ℕ) (rest : List ℕ) (found : NamedBase)
    → lines rest ≡ take size rest ∷ lines (drop taken rest)
    → Some found ≡ other_base base (number + 1) (named_base (take size rest))
    → first_other base (number + 1) (lines rest) ≡ Some found
other-found base number size taken rest found cut is =
    ap (first_other base (number + 1)) cut
    ∙ ap (λ o. first_of o (first_other base (number + 1 + 1) (lines (drop taken rest)))) (sym is)
