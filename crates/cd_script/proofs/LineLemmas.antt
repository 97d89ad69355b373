-- Lines that are read one after the other, as in a loop.
use Rattle.std.proofs.Common.{◌≡◌, ℕ, ◌+◌, ◌≤◌, false, List, [], ◌∷◌, ◌++◌, length, take, Option, Some, None, Result, Ok, Err, refl, subst, sym, ap, ◌∙◌, arith}
use Rattle.std.specs.Prelude.{is_some, IsOk}
use Rattle.std.specs.Int.{from_bool}
use Rattle.std.specs.List.{cons_option}
use Rattle.std.specs.Option.{option_to_list}
use Rattle.std.specs.Result.{result_err}
use Rattle.std.proofs.lemmas.List.{append-nil, append_assoc}
use Rattle.cd_script.specs.declared.fault.ScriptFault.{ScriptFault}
use Rattle.cd_script.specs.declared.fault.ScriptFault.TheVariants.{Head}
use Rattle.cd_script.specs.PatchForm.{Patch}
use Rattle.cd_script.specs.declared.version.Version.{Version}
use Rattle.cd_script.specs.Line.{patch_at, patch_by}
use Rattle.cd_script.specs.FirstFault.{◌>>=◌}
use Rattle.cd_script.specs.Script.{at_limit, is_passed_over, line_at, patches_from, script_from}
use Rattle.cd_script.specs.Words.{words}

-- if a reading has no error, neither has a result that is equal to it
pub reads_ok : {X : Type 0} (r read : Result X ScriptFault) → r ≡ read
    → ((e : ScriptFault) → read ≡ Err e → ⊥) → IsOk r
reads_ok (Ok x) read h sound = refl
reads_ok (Err e) read h sound = absurd (sound e (sym h))

-- ---- one line, from its first seven words: they have the meaning of all its words

is_passed_over-take : (ws : List (List ℕ)) → is_passed_over (take 7 ws) ≡ is_passed_over ws
is_passed_over-take ws = grind arith

patch_by-take : (version : Version) (line : ℕ) (ws : List (List ℕ))
    → patch_by version line (take 7 ws) ≡ patch_by version line ws
unfolding patch_at patch_by
patch_by-take version line ws = grind arith

pub line_at-is : (version : Version) (line earlier : ℕ) (text : List ℕ) (found : List (List ℕ))
    (r : Result Patch ScriptFault) → found ≡ take 7 (words text) → is_passed_over found ≡ false
    → patch_by version line found ≡ r
    → line_at version line earlier text ≡ (r >>= at_limit line earlier)
unfolding line_at
line_at-is version line earlier text found r is patch read =
    let passes : is_passed_over (words text) ≡ false =
    sym (is_passed_over-take (words text)) ∙ ap is_passed_over (sym is) ∙ patch in
    let reads : patch_by version line (words text) ≡ r =
    sym (patch_by-take version line (words text))
    ∙ ap (patch_by version line) (sym is) ∙ read in
    rw (passes, reads) refl

-- ---- the lines of a loop

-- the patches that were read before, and the lines that are still to be read
abbrev pub with_front : List Patch → Result (List Patch) ScriptFault
    → Result (List Patch) ScriptFault
with_front front read = read >>= λ ps. Ok (front ++ ps)

same_fault : (r : Result (List Patch) ScriptFault) (f : List Patch → List Patch)
    → result_err (r >>= λ ps. Ok (f ps)) ≡ result_err r
same_fault (Ok ps) f = refl
same_fault (Err e) f = refl

pub regroup : (front : List Patch) (found : Option Patch) (read : Result (List Patch) ScriptFault)
    → with_front front (read >>= λ ps. Ok (cons_option found ps))
    ≡ with_front (front ++ option_to_list found) read
regroup front None (Ok ps) = ap (λ (qs : List Patch). Ok (qs ++ ps)) (sym (append-nil front))
regroup front (Some p) (Ok ps) =
    ap (λ (qs : List Patch). Ok qs) (sym (append_assoc front (p ∷ []) ps))
regroup front found (Err e) = refl

pub goes_on : (version : Version) (front after : List Patch) (line count earlier later : ℕ)
    (text : List ℕ) (all rest : List (List ℕ)) (found : Option Patch)
    (total : Result (List Patch) ScriptFault)
    → count ≡ earlier → later ≡ earlier + length (option_to_list found)
    → after ≡ front ++ option_to_list found → all ≡ text ∷ rest
    → line_at version line count text ≡ Ok found
    → with_front front (patches_from version line earlier all) ≡ total
    → with_front after (patches_from version (line + 1) later rest) ≡ total
unfolding patches_from
goes_on version front after line count earlier later text all rest found total same more grown
    parts read so_far =
    let step : with_front front (patches_from version line earlier all)
    ≡ with_front (front ++ option_to_list found)
    (patches_from version (line + 1) (earlier + length (option_to_list found)) rest) =
    rw (parts, ← same, read) (regroup front found _) in
    rw (grown, more) (sym step ∙ so_far)

-- if the lines have no error, the next line has none
pub next_sound : (version : Version) (front : List Patch) (line count earlier : ℕ) (text : List ℕ)
    (all rest : List (List ℕ)) (e : ScriptFault) (total : Result (List Patch) ScriptFault)
    → count ≡ earlier → all ≡ text ∷ rest
    → with_front front (patches_from version line earlier all) ≡ total → IsOk total
    → line_at version line count text ≡ Err e → ⊥
unfolding patches_from
next_sound version front line count earlier text all rest e total same parts so_far sound read =
    let bad : total ≡ Err e = sym so_far ∙ rw (parts, ← same, read) refl in
    let no : IsOk {T = List Patch} {E = ScriptFault} (Err e) = subst IsOk bad sound in
    cc

pub all_read : (version : Version) (front : List Patch) (line earlier : ℕ) (all : List (List ℕ))
    (total : Result (List Patch) ScriptFault) → all ≡ []
    → with_front front (patches_from version line earlier all) ≡ total → total ≡ Ok front
unfolding patches_from
all_read version front line earlier all total none so_far =
    sym so_far ∙ rw none (ap (λ (qs : List Patch). Ok qs) (append-nil front))

-- ---- the first error of lines

pub fault_later : (version : Version) (line earlier : ℕ) (text : List ℕ) (all rest : List (List ℕ))
    (found : Option Patch) → all ≡ text ∷ rest → line_at version line earlier text ≡ Ok found
    → result_err (patches_from version line earlier all)
    ≡ result_err (patches_from version (line + 1) (earlier + length (option_to_list found)) rest)
unfolding patches_from
fault_later version line earlier text all rest found parts read =
    rw (parts, read) (same_fault
    (patches_from version (line + 1) (earlier + length (option_to_list found)) rest)
    (cons_option found))

pub fault_here : (version : Version) (line earlier : ℕ) (text : List ℕ) (all rest : List (List ℕ))
    (e : ScriptFault) → all ≡ text ∷ rest → line_at version line earlier text ≡ Err e
    → result_err (patches_from version line earlier all) ≡ Some e
unfolding patches_from
fault_here version line earlier text all rest e parts read = rw (parts, read) refl

pub fault_none : (version : Version) (line earlier : ℕ) (all : List (List ℕ)) → all ≡ []
    → result_err (patches_from version line earlier all) ≡ None
unfolding patches_from
fault_none version line earlier all none = rw none refl

-- one more patch if the line has one
pub counted : {X : Type 0} (found : Option X)
    → from_bool (is_some found) ≡ length (option_to_list found)
counted None = refl
counted (Some x) = refl

pub counted-most : {X : Type 0} (found : Option X) → length (option_to_list found) ≤ 1
counted-most None = omega arith
counted-most (Some x) = omega arith

-- ---- the lines up to the head line

pub head_absent : (line : ℕ) → script_from line [] ≡ Err (Head line)
unfolding script_from
head_absent line = refl
