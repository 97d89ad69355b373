-- The first version means the same as before there was a second one, and the second extends it.
use Rattle.std.proofs.Common.{◌≡◌, ◌≢◌, ℕ, ◌+◌, Bool, true, false, cond, List, [], ◌∷◌, length, Option, Some, Result, Ok, Err, refl, ap, arith}
use Rattle.std.specs.Prelude.{All}
use Rattle.std.specs.List.{cons_option}
use Rattle.std.specs.Option.{option_to_list}
use Rattle.std.specs.Str.Lines.{lines}
use Rattle.std.proofs.lemmas.List.Elements.{All-head, All-tail}
use Rattle.cd_script.specs.declared.fault.ScriptFault.{ScriptFault}
use Rattle.cd_script.specs.declared.fault.ScriptFault.TheVariants.{Head}
use Rattle.cd_script.specs.PatchForm.{Patch}
use Rattle.cd_script.specs.declared.version.Version.{Version}
use Rattle.cd_script.specs.declared.version.Version.TheVariants.{One, Two}
use Rattle.cd_script.specs.Line.{patch_at, patch_by}
use Rattle.cd_script.specs.FirstFault.{◌>>=◌}
use Rattle.cd_script.specs.Script.{head_version, is_passed_over, line_at, patches_after, patches_from, script, script_from}
use Rattle.cd_script.specs.Versions.{is_first_head, first_line_at, first_patches_from, first_script_from, first_script, version_of, has_new_verb}
use Rattle.cd_script.specs.Words.{words}

-- if two continuations are equal, so are the readings with them
same_rest : {X Y : Type 0} (read : Result X ScriptFault) (one other : X → Result Y ScriptFault)
    → ((x : X) → one x ≡ other x) → (read >>= one) ≡ (read >>= other)
same_rest (Ok x) one other same = same x
same_rest (Err e) one other same = refl

-- ---- the first version

first-patches : (line earlier : ℕ) (texts : List (List ℕ))
    → patches_from One line earlier texts ≡ first_patches_from line earlier texts
unfolding patches_from first_patches_from line_at first_line_at patch_by
first-patches line earlier [] = refl
first-patches line earlier (text ∷ rest) =
    same_rest (first_line_at line earlier text) _ _ (λ found.
    ap (λ (r : Result (List Patch) ScriptFault). r >>= λ others. Ok (cons_option found others))
    (first-patches (line + 1) (earlier + length (option_to_list found)) rest))

first-head : (ws : List (List ℕ)) (line : ℕ) (rest : List (List ℕ)) → head_version ws ≢ Some Two
    → patches_after line (head_version ws) rest
    ≡ cond (is_first_head ws) (first_patches_from (line + 1) 0 rest) (Err (Head line))
first-head ws line rest other = grind (arith, first-patches)

-- a line that may be skipped, and the lines after it
first-after : (passed : Bool) (below named : Option Version)
    (on on' here here' : Result (List Patch) ScriptFault) → cond passed below named ≢ Some Two
    → (below ≢ Some Two → on ≡ on') → (named ≢ Some Two → here ≡ here')
    → cond passed on here ≡ cond passed on' here'
first-after true below named on on' here here' other same_on same_here = same_on other
first-after false below named on on' here here' other same_on same_here = same_here other

first-script_from : (line : ℕ) (texts : List (List ℕ)) → version_of texts ≢ Some Two
    → script_from line texts ≡ first_script_from line texts
unfolding script_from first_script_from version_of
first-script_from line [] other = refl
first-script_from line (text ∷ rest) other =
    first-after (is_passed_over (words text)) (version_of rest)
    (head_version (words text)) _ _ _ _ other (first-script_from (line + 1) rest)
    (first-head (words text) line rest)

pub first-stays : (text : List ℕ) → version_of (lines text) ≢ Some Two
    → script text ≡ first_script text
first-stays text other = first-script_from 1 (lines text) other

-- ---- the second version

-- words without the verb of the second version
pub old_verb : (version : Version) (line : ℕ) (ws : List (List ℕ)) → has_new_verb ws ≡ false
    → patch_by version line ws ≡ patch_at line ws
unfolding patch_by
old_verb version line ws old = grind arith

pub second-extends : (line earlier : ℕ) (texts : List (List ℕ))
    → All (λ text. has_new_verb (words text) ≡ false) texts
    → patches_from Two line earlier texts ≡ patches_from One line earlier texts
unfolding patches_from line_at patch_by
second-extends line earlier [] old = refl
second-extends line earlier (text ∷ rest) old =
    let here =
    old_verb Two line (words text)
    (All-head (λ text. has_new_verb (words text) ≡ false) text rest old) in
    let later = All-tail (λ text. has_new_verb (words text) ≡ false) text rest old in
    rw here (same_rest (line_at One line earlier text) _ _ (λ found.
    ap (λ (r : Result (List Patch) ScriptFault). r >>= λ others. Ok (cons_option found others))
    (second-extends (line + 1) (earlier + length (option_to_list found)) rest later)))
