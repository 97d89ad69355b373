-- Lemmas about lines that are each read by itself.
use Rattle.std.proofs.Common.{◌≡◌, ℕ, ◌+◌, Bool, true, false, cond, List, [], ◌∷◌, length, Option, Some, None, Result, Ok, Err, refl, sym, ap, ◌∙◌}
use Rattle.std.specs.Prelude.{IfOk, IfSome, ◌<◌}
use Rattle.std.specs.List.{cons_option}
use Rattle.std.specs.Option.{option_to_list}
use Rattle.std.specs.Str.Lines.{lines}
use Rattle.cd_script.specs.declared.fault.ScriptFault.{ScriptFault}
use Rattle.cd_script.specs.PatchForm.{Patch}
use Rattle.cd_script.specs.declared.version.Version.{Version}
use Rattle.cd_script.specs.ByLine.{KeepsToLimits, by_line, head_at, head_meaning, head_or_fault, meaning_at, patch_in, patch_meaning, version_after}
use Rattle.cd_script.specs.FirstFault.{◌>>=◌}
use Rattle.cd_script.specs.Limits.{patch_limit}
use Rattle.cd_script.specs.Patch.{IsPatch}
use Rattle.cd_script.specs.Script.{head_version, is_passed_over, line_at, patches_after, patches_from, script, script_from}
use Rattle.cd_script.specs.Words.{words}
use Rattle.cd_script.proofs.PatchLemmas.{line_at-patch}

-- ---- the head line

-- the lines after a line in which this version, or none, was found
abbrev pub after_head : ℕ → List (List ℕ) → Option Version → Result (List Patch) ScriptFault
after_head line rest None = script_from (line + 1) rest
after_head line rest (Some version) = patches_from version (line + 1) 0 rest

head_cases : (line : ℕ) (rest : List (List ℕ)) (passed : Bool) (named : Option Version)
    → cond passed (script_from (line + 1) rest) (patches_after line named rest)
    ≡ (cond passed (Ok None) (head_or_fault line named) >>= after_head line rest)
head_cases line rest true named = refl
head_cases line rest false None = refl
head_cases line rest false (Some version) = refl

-- one of the lines up to the head line
pub head_step : (line : ℕ) (text : List ℕ) (all rest : List (List ℕ))
    (found : Result (Option Version) ScriptFault) → all ≡ text ∷ rest → head_at line text ≡ found
    → script_from line all ≡ (found >>= after_head line rest)
unfolding head_at script_from
head_step line text all rest found parts read =
    ap (script_from line) parts
    ∙ head_cases line rest (is_passed_over (words text)) (head_version (words text))
    ∙ ap (λ (r : Result (Option Version) ScriptFault). r >>= after_head line rest) read

-- ---- line by line

one_below : (version : Version) (read : Result (Option Patch) ScriptFault) (earlier : ℕ)
    (one : ℕ → Result (List Patch) ScriptFault)
    (other : Option Version → ℕ → Result (List Patch) ScriptFault)
    → ((n : ℕ) → one n ≡ other (Some version) n)
    → (read >>= λ found. one (earlier + length (option_to_list found))
    >>= λ others. Ok (cons_option found others))
    ≡ ((read >>= λ found. Ok (patch_meaning found))
    >>= λ meaning. other (version_after (Some version) meaning)
    (earlier + length (option_to_list (patch_in meaning)))
    >>= λ others. Ok (cons_option (patch_in meaning) others))
one_below version (Ok None) earlier one other same =
    ap (λ (r : Result (List Patch) ScriptFault). r >>= λ others. Ok (cons_option None others))
    (same (earlier + 0))
one_below version (Ok (Some p)) earlier one other same =
    ap (λ (r : Result (List Patch) ScriptFault). r >>= λ others. Ok (cons_option (Some p) others))
    (same (earlier + 1))
one_below version (Err e) earlier one other same = refl

below : (version : Version) (line earlier : ℕ) (ls : List (List ℕ))
    → patches_from version line earlier ls ≡ by_line (Some version) line earlier ls
unfolding patches_from by_line
below version line earlier [] = refl
below version line earlier (text ∷ rest) =
    one_below version (line_at version line earlier text) earlier
    (λ n. patches_from version (line + 1) n rest) (λ v n. by_line v (line + 1) n rest)
    (λ n. below version (line + 1) n rest)

kept : (r : Result (List Patch) ScriptFault) → (r >>= λ others. Ok (cons_option None others)) ≡ r
kept (Ok ps) = refl
kept (Err e) = refl

one_above : (line : ℕ) (passed : Bool) (named : Option Version) (rest : List (List ℕ))
    → script_from (line + 1) rest ≡ by_line None (line + 1) 0 rest
    → cond passed (script_from (line + 1) rest) (patches_after line named rest)
    ≡ ((cond passed (Ok None) (head_or_fault line named) >>= λ found. Ok (head_meaning found))
    >>= λ meaning. by_line (version_after None meaning) (line + 1)
    (0 + length (option_to_list (patch_in meaning))) rest
    >>= λ others. Ok (cons_option (patch_in meaning) others))
one_above line true named rest same = same ∙ sym (kept (by_line None (line + 1) 0 rest))
one_above line false None rest same = refl
one_above line false (Some version) rest same =
    below version (line + 1) 0 rest ∙ sym (kept (by_line (Some version) (line + 1) 0 rest))

above : (line : ℕ) (ls : List (List ℕ)) → script_from line ls ≡ by_line None line 0 ls
unfolding script_from by_line head_at
above line [] = refl
above line (text ∷ rest) =
    one_above line (is_passed_over (words text)) (head_version (words text)) rest
    (above (line + 1) rest)

pub reads-by_line : (text : List ℕ) → script text ≡ by_line None 1 0 (lines text)
reads-by_line text = above 1 (lines text)

-- ---- the meaning of a line keeps to the limits

head_keeps : (r : Result (Option Version) ScriptFault)
    → IfOk (r >>= λ found. Ok (head_meaning found)) KeepsToLimits
head_keeps (Ok None) = tt
head_keeps (Ok (Some version)) = tt
head_keeps (Err e) = tt

patch_keeps : (earlier : ℕ) (r : Result (Option Patch) ScriptFault)
    → IfOk r (λ found. IfSome found (λ p. IsPatch p × (earlier < patch_limit)))
    → IfOk (r >>= λ found. Ok (patch_meaning found)) KeepsToLimits
patch_keeps earlier (Ok None) h = tt
patch_keeps earlier (Ok (Some p)) h = h.0
patch_keeps earlier (Err e) h = tt

pub meaning_keeps : (version : Option Version) (line earlier : ℕ) (text : List ℕ)
    → IfOk (meaning_at version line earlier text) KeepsToLimits
meaning_keeps None line earlier text = head_keeps (head_at line text)
meaning_keeps (Some version) line earlier text =
    patch_keeps earlier (line_at version line earlier text)
    (line_at-patch version line earlier text)
