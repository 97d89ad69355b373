-- The number of the line of a patch.
use Rattle.std.proofs.Common.{◌≡◌, ℕ, ◌+◌, ◌<◌, ◌≤◌, List, [], ◌∷◌, length, Option, Some, None, Ok, refl, arith}
use Rattle.std.specs.Prelude.{All, IfOk, IfSome}
use Rattle.std.specs.List.{cons_option, slice_split}
use Rattle.std.specs.Option.{option_to_list}
use Rattle.std.specs.Str.Lines.{lines, lines_of_parts}
use Rattle.std.proofs.lemmas.Bool.Decides.{nat_tests}
use Rattle.std.proofs.lemmas.List.Elements.{All-nil, All-cons}
use Rattle.std.proofs.lemmas.List.Sorted.{All-permutation}
use Rattle.std.proofs.lemmas.List.Splits.{length-slice_split}
use Rattle.std.proofs.lemmas.List.Sums.{count_by-le-length}
use Rattle.std.proofs.lemmas.Result.{IfOk-at_ok}
use Rattle.cd_script.specs.PatchForm.{Patch}
use Rattle.cd_script.specs.declared.version.Version.{Version}
use Rattle.cd_script.specs.Line.{set_patch, set_if_patch, fill_patch, rebuild_patch, address_patch, patch_at, patch_by}
use Rattle.cd_script.specs.Order.{order}
use Rattle.cd_script.specs.Script.{is_passed_over, head_version, line_at, patches_after, patches_from, script, script_from}
use Rattle.cd_script.specs.Words.{words}
use Rattle.cd_script.proofs.KindLemmas.{address-kind, byte-kind, cond_keeps, count-kind, new-kind, number-kind, offset-kind, old-kind, then_keeps, word_keeps}
use Rattle.cd_script.proofs.OrderLemmas.{order-permutes}
use Rattle.cd_script.proofs.general.Lines.{is_feed}

-- the patch is in the line with this number
abbrev IsIn : ℕ → Patch → Type 0
IsIn line p = p.line ≡ line

set_patch-in : (line : ℕ) (block offset new : List ℕ)
    → IfOk (set_patch line block offset new) (IsIn line)
unfolding set_patch
set_patch-in line block offset new =
    word_keeps (IsIn line) (number-kind line) block _ (λ b at.
    word_keeps (IsIn line) (offset-kind line) offset _ (λ o from.
    word_keeps (IsIn line) (new-kind line) new _ (λ bytes fit. refl)))

set_if_patch-in : (line : ℕ) (block offset new old : List ℕ)
    → IfOk (set_if_patch line block offset new old) (IsIn line)
unfolding set_if_patch
set_if_patch-in line block offset new old =
    word_keeps (IsIn line) (number-kind line) block _ (λ b at.
    word_keeps (IsIn line) (offset-kind line) offset _ (λ o from.
    word_keeps (IsIn line) (new-kind line) new _ (λ bytes fit.
    word_keeps (IsIn line) (old-kind line bytes fit) old _ (λ were fits. refl))))

fill_patch-in : (line : ℕ) (block offset count byte : List ℕ)
    → IfOk (fill_patch line block offset count byte) (IsIn line)
unfolding fill_patch
fill_patch-in line block offset count byte =
    word_keeps (IsIn line) (number-kind line) block _ (λ b at.
    word_keeps (IsIn line) (offset-kind line) offset _ (λ o from.
    word_keeps (IsIn line) (count-kind line) count _ (λ n many.
    word_keeps (IsIn line) (byte-kind line) byte _ (λ v value. refl))))

rebuild_patch-in : (line : ℕ) (block : List ℕ) → IfOk (rebuild_patch line block) (IsIn line)
unfolding rebuild_patch
rebuild_patch-in line block = word_keeps (IsIn line) (number-kind line) block _ (λ b at. refl)

address_patch-in : (line : ℕ) (block address : List ℕ)
    → IfOk (address_patch line block address) (IsIn line)
unfolding address_patch
address_patch-in line block address =
    word_keeps (IsIn line) (number-kind line) block _ (λ b at.
    word_keeps (IsIn line) (address-kind line) address _ (λ bcd fit. refl))

patch_by-in : (version : Version) (line : ℕ) (ws : List (List ℕ))
    → IfOk (patch_by version line ws) (IsIn line)
unfolding patch_at patch_by
patch_by-in version line ws = grind
    (arith, set_patch-in, set_if_patch-in, fill_patch-in, rebuild_patch-in, address_patch-in)

line_at-in : (version : Version) (line earlier : ℕ) (text : List ℕ)
    → IfOk (line_at version line earlier text) (λ found. IfSome found (IsIn line))
unfolding line_at
line_at-in version line earlier text =
    grind (arith, nat_tests, patch_by-in version line (words text))

-- ---- the lines of a text

-- the patches are in lines before this one
abbrev AreBefore : ℕ → List Patch → Type 0
AreBefore end = All (λ p. p.line < end)

put_on : (end line : ℕ) (found : Option Patch) (ps : List Patch) → line < end
    → IfSome found (IsIn line) → AreBefore end ps → AreBefore end (cons_option found ps)
put_on end line None ps lt h rest = rest
put_on end line (Some p) ps lt h rest = All-cons (λ p. p.line < end) p ps (omega (arith, h, lt)) rest

patches_from-before : (version : Version) (line earlier : ℕ) (ls : List (List ℕ)) (end : ℕ)
    → line + length ls ≤ end → IfOk (patches_from version line earlier ls) (AreBefore end)
unfolding patches_from
patches_from-before version line earlier [] end le = All-nil (λ p. p.line < end)
patches_from-before version line earlier (text ∷ rest) end le =
    then_keeps _ _ (line_at version line earlier text) _ (line_at-in version line earlier text)
    (λ found one.
    let later = earlier + length (option_to_list found) in
    then_keeps _ _ (patches_from version (line + 1) later rest) _
    (patches_from-before version (line + 1) later rest end (omega arith))
    (λ others after. put_on end line found others (omega arith) one after))

patches_after-before : (line : ℕ) (named : Option Version) (rest : List (List ℕ)) (end : ℕ)
    → line + 1 + length rest ≤ end → IfOk (patches_after line named rest) (AreBefore end)
patches_after-before line None rest end le = tt
patches_after-before line (Some version) rest end le =
    patches_from-before version (line + 1) 0 rest end le

script_from-before : (line : ℕ) (ls : List (List ℕ)) (end : ℕ) → line + length ls ≤ end
    → IfOk (script_from line ls) (AreBefore end)
unfolding script_from
script_from-before line [] end le = tt
script_from-before line (text ∷ rest) end le =
    cond_keeps _ (is_passed_over (words text)) _ _
    (λ _. script_from-before (line + 1) rest end (omega arith))
    (λ _. patches_after-before line (head_version (words text)) rest end (omega arith))

-- a text has at most one more line than bytes
parts-most : (parts : List (List ℕ)) → length (lines_of_parts parts) ≤ length parts
parts-most [] = omega arith
parts-most (x ∷ []) = grind (arith, nat_tests)
parts-most (x ∷ y ∷ more) = omega (arith, parts-most (y ∷ more))

lines-most : (text : List ℕ) → length (lines text) ≤ length text + 1
lines-most text =
    omega (
      arith,
      parts-most (slice_split is_feed text),
      length-slice_split is_feed text,
      count_by-le-length is_feed text,
    )

-- the line number of a patch is at most one more than the number of bytes of the text
pub lines-numbered : (text : List ℕ) (ps : List Patch) → script text ≡ Ok ps
    → All (λ p. p.line ≤ length text + 1) (order ps)
lines-numbered text ps reads =
    let before : AreBefore (1 + length (lines text)) ps =
    IfOk-at_ok (AreBefore (1 + length (lines text))) reads
    (script_from-before 1 (lines text) (1 + length (lines text)) (omega arith)) in
    All-permutation (λ p. p.line ≤ length text + 1) ps (order ps) (order-permutes ps)
    (λ k d lt. omega (arith, before k d lt, lines-most text))
