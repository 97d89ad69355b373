-- The patches that are read keep to the limits of patches.
use Rattle.std.proofs.Common.{◌≡◌, ℕ, zero, suc, ◌+◌, ◌<◌, ◌≤◌, List, [], ◌∷◌, length, Option, Some, None, Result, Ok, Err, refl, arith}
use Rattle.std.specs.Prelude.{All, IfOk, IfSome}
use Rattle.std.specs.List.{cons_option}
use Rattle.std.specs.Option.{option_to_list}
use Rattle.std.specs.Str.Lines.{lines}
use Rattle.std.proofs.lemmas.Bool.Decides.{nat_tests}
use Rattle.std.proofs.lemmas.List.Elements.{All-nil, All-cons}
use Rattle.std.proofs.lemmas.Result.{IfOk-at_ok}
use Rattle.cd_script.specs.PatchForm.{Patch}
use Rattle.cd_script.specs.declared.version.Version.{Version}
use Rattle.cd_script.specs.Limits.{patch_limit}
use Rattle.cd_script.specs.Line.{set_patch, set_if_patch, fill_patch, rebuild_patch, address_patch, patch_at, patch_by}
use Rattle.cd_script.specs.Patch.{IsPatch}
use Rattle.cd_script.specs.Script.{is_passed_over, head_version, line_at, patches_after, patches_from, script_from}
use Rattle.cd_script.specs.Size.{ScriptIsShort}
use Rattle.cd_script.specs.Words.{words}
use Rattle.cd_script.specs.declared.fault.ScriptFault.{ScriptFault}
use Rattle.cd_script.proofs.KindLemmas.{address-kind, byte-kind, cond_keeps, count-kind, new-kind, number-kind, offset-kind, old-kind, then_keeps, word_keeps}

-- ---- the forms, word by word

set_patch-patch : (line : ℕ) (block offset new : List ℕ) → IfOk (set_patch line block offset new) IsPatch
unfolding set_patch
set_patch-patch line block offset new =
    word_keeps IsPatch (number-kind line) block _ (λ b at.
    word_keeps IsPatch (offset-kind line) offset _ (λ o from.
    word_keeps IsPatch (new-kind line) new _ (λ bytes fit.
    record { block = at; offset = from; edit = (fit, tt) })))

set_if_patch-patch : (line : ℕ) (block offset new old : List ℕ)
    → IfOk (set_if_patch line block offset new old) IsPatch
unfolding set_if_patch
set_if_patch-patch line block offset new old =
    word_keeps IsPatch (number-kind line) block _ (λ b at.
    word_keeps IsPatch (offset-kind line) offset _ (λ o from.
    word_keeps IsPatch (new-kind line) new _ (λ bytes fit.
    word_keeps IsPatch (old-kind line bytes fit) old _ (λ were fits.
    record { block = at; offset = from; edit = (fit, fits) }))))

fill_patch-patch : (line : ℕ) (block offset count byte : List ℕ)
    → IfOk (fill_patch line block offset count byte) IsPatch
unfolding fill_patch
fill_patch-patch line block offset count byte =
    word_keeps IsPatch (number-kind line) block _ (λ b at.
    word_keeps IsPatch (offset-kind line) offset _ (λ o from.
    word_keeps IsPatch (count-kind line) count _ (λ n many.
    word_keeps IsPatch (byte-kind line) byte _ (λ v value.
    record { block = at; offset = from; edit = (many.0, many.1, value) }))))

rebuild_patch-patch : (line : ℕ) (block : List ℕ) → IfOk (rebuild_patch line block) IsPatch
unfolding rebuild_patch
rebuild_patch-patch line block =
    word_keeps IsPatch (number-kind line) block _ (λ b at.
    record { block = at; offset = omega arith; edit = refl })

address_patch-patch : (line : ℕ) (block address : List ℕ)
    → IfOk (address_patch line block address) IsPatch
unfolding address_patch
address_patch-patch line block address =
    word_keeps IsPatch (number-kind line) block _ (λ b at.
    word_keeps IsPatch (address-kind line) address _ (λ bcd fit.
    record { block = at; offset = omega arith; edit = (refl, fit) }))

patch_by-patch : (version : Version) (line : ℕ) (ws : List (List ℕ))
    → IfOk (patch_by version line ws) IsPatch
unfolding patch_at patch_by
patch_by-patch version line ws = grind
    (arith, set_patch-patch, set_if_patch-patch, fill_patch-patch, rebuild_patch-patch, address_patch-patch)

-- ---- the lines

pub line_at-patch : (version : Version) (line earlier : ℕ) (text : List ℕ)
    → IfOk (line_at version line earlier text)
    (λ found. IfSome found (λ p. IsPatch p × (earlier < patch_limit)))
unfolding line_at
line_at-patch version line earlier text =
    grind (arith, nat_tests, patch_by-patch version line (words text))

-- patches of lines after `earlier` others
pub record AreBehind (earlier : ℕ) (ps : List Patch) : Type 0 where
  pub each : All IsPatch ps
  pub count : earlier + length ps ≤ patch_limit

room : (earlier : ℕ) (found : Option Patch) → earlier ≤ patch_limit
    → IfSome found (λ p. IsPatch p × (earlier < patch_limit))
    → earlier + length (option_to_list found) ≤ patch_limit
room earlier found le h = grind arith

put_on : (earlier : ℕ) (found : Option Patch) (ps : List Patch)
    → IfSome found (λ p. IsPatch p × (earlier < patch_limit))
    → AreBehind (earlier + length (option_to_list found)) ps
    → AreBehind earlier (cons_option found ps)
put_on earlier None ps h rest = record { each = rest.each; count = omega (arith, rest.count) }
put_on earlier (Some p) ps h rest = record {
  each = All-cons IsPatch p ps h.0 rest.each;
  count = omega (arith, rest.count);
}

patches_from-patches : (version : Version) (line earlier : ℕ) (ls : List (List ℕ))
    → earlier ≤ patch_limit → IfOk (patches_from version line earlier ls) (AreBehind earlier)
unfolding patches_from
patches_from-patches version line earlier [] le =
    record { each = All-nil IsPatch; count = omega arith }
patches_from-patches version line earlier (text ∷ rest) le =
    then_keeps _ _ (line_at version line earlier text) _ (line_at-patch version line earlier text)
    (λ found one.
    let later = earlier + length (option_to_list found) in
    then_keeps _ _ (patches_from version (line + 1) later rest) _
    (patches_from-patches version (line + 1) later rest (room earlier found le one))
    (λ others after. put_on earlier found others one after))

patches_after-patches : (line : ℕ) (named : Option Version) (rest : List (List ℕ))
    → IfOk (patches_after line named rest) (AreBehind 0)
patches_after-patches line None rest = tt
patches_after-patches line (Some version) rest =
    patches_from-patches version (line + 1) 0 rest (omega arith)

script_from-patches : (line : ℕ) (ls : List (List ℕ)) → IfOk (script_from line ls) (AreBehind 0)
unfolding script_from
script_from-patches line [] = tt
script_from-patches line (text ∷ rest) =
    cond_keeps _ (is_passed_over (words text)) _ _ (λ _. script_from-patches (line + 1) rest)
    (λ _. patches_after-patches line (head_version (words text)) rest)

pub script-behind : (line : ℕ) (ls : List (List ℕ)) (ps : List Patch) → script_from line ls ≡ Ok ps
    → AreBehind 0 ps
script-behind line ls ps e = IfOk-at_ok (AreBehind 0) e (script_from-patches line ls)

-- ---- the number of patches

cons_few : (found : Option Patch) (ps : List Patch) (n : ℕ) → suc (length ps) ≤ n
    → length (cons_option found ps) ≤ n
cons_few None ps n h = omega arith
cons_few (Some p) ps n h = h

patches_from-few : (version : Version) (line earlier : ℕ) (ls : List (List ℕ)) (n : ℕ)
    → length ls ≤ n → IfOk (patches_from version line earlier ls) (λ ps. length ps ≤ n)
unfolding patches_from
patches_from-few version line earlier [] n h = omega arith
patches_from-few version line earlier (text ∷ rest) zero h = absurd (omega arith)
patches_from-few version line earlier (text ∷ rest) (suc n) h =
    then_keeps _ _ (line_at version line earlier text) _ (line_at-patch version line earlier text)
    (λ found one.
    let later = earlier + length (option_to_list found) in
    then_keeps _ _ (patches_from version (line + 1) later rest) _
    (patches_from-few version (line + 1) later rest n (omega arith))
    (λ others few. cons_few found others (suc n) (omega arith)))

patches_after-few : (line : ℕ) (named : Option Version) (rest : List (List ℕ)) (n : ℕ)
    → length rest ≤ n → IfOk (patches_after line named rest) (λ ps. length ps ≤ n)
patches_after-few line None rest n h = tt
patches_after-few line (Some version) rest n h = patches_from-few version (line + 1) 0 rest n h

script_from-few : (line : ℕ) (ls : List (List ℕ)) (n : ℕ) → length ls ≤ n
    → IfOk (script_from line ls) (λ ps. length ps ≤ n)
unfolding script_from
script_from-few line [] n h = tt
script_from-few line (text ∷ rest) n h =
    cond_keeps _ (is_passed_over (words text)) _ _
    (λ _. script_from-few (line + 1) rest n (omega arith))
    (λ _. patches_after-few line (head_version (words text)) rest n (omega arith))

both : (r : Result (List Patch) ScriptFault) (n : ℕ) → IfOk r (λ ps. length ps ≤ n)
    → IfOk r (AreBehind 0) → IfOk r (λ ps. (length ps ≤ n) × (length ps ≤ patch_limit))
both (Ok ps) n few h = (few, omega (arith, h.count))
both (Err e) n few h = tt

pub script-short : ScriptIsShort
script-short text =
    both (script_from 1 (lines text)) (length (lines text))
    (script_from-few 1 (lines text) (length (lines text)) (omega arith))
    (script_from-patches 1 (lines text))
