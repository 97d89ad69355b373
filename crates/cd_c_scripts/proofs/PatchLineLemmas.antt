-- The line of a script that has a patch or the head.
use Rattle.std.proofs.Common.{◌≡◌, ℕ, zero, suc, ◌<◌, Bool, List, [], ◌∷◌, ◌++◌, length, get_or, Option, None, Some, Result, Ok, Err, refl, subst, arith}
use Rattle.std.specs.Prelude.{All, IfOk, cond, nat_le, true, false}
use Rattle.std.proofs.lemmas.List.Elements.{All-nil, All-push, All-head, All-tail}
use Rattle.cd_script.specs.ByLine.{head_at, head_meaning, meaning_at, patch_meaning}
use Rattle.cd_script.specs.FirstFault.{◌>>=◌}
use Rattle.cd_script.specs.Limits.{patch_limit}
use Rattle.cd_script.specs.Line.{set_patch, set_if_patch, fill_patch, rebuild_patch, address_patch, patch_at, patch_by}
use Rattle.cd_script.specs.PatchForm.{Patch}
use Rattle.cd_script.specs.Script.{at_limit, is_passed_over, line_at}
use Rattle.cd_script.specs.Words.{words}
use Rattle.cd_script.specs.declared.by_line.LineContent.{LineContent}
use Rattle.cd_script.specs.declared.by_line.LineContent.TheVariants as content
use Rattle.cd_script.specs.declared.fault.ScriptFault.{ScriptFault}
use Rattle.cd_script.specs.declared.fault.ScriptFault.TheVariants.{TooMany}
use Rattle.cd_script.specs.declared.version.Version.{Version}
use Rattle.cd_c_scripts.specs.declared.entries.Entry.{Entry}
use Rattle.cd_c_scripts.specs.Entries.{AreEntries, IsEntry, LinesRise}

-- ---- the line of a patch

set_patch-line : (line : ℕ) (block offset new : List ℕ)
    → IfOk (set_patch line block offset new) (λ p. p.line ≡ line)
unfolding set_patch
set_patch-line line block offset new = grind arith

set_if_patch-line : (line : ℕ) (block offset new old : List ℕ)
    → IfOk (set_if_patch line block offset new old) (λ p. p.line ≡ line)
unfolding set_if_patch
set_if_patch-line line block offset new old = grind arith

fill_patch-line : (line : ℕ) (block offset count byte : List ℕ)
    → IfOk (fill_patch line block offset count byte) (λ p. p.line ≡ line)
unfolding fill_patch
fill_patch-line line block offset count byte = grind arith

rebuild_patch-line : (line : ℕ) (block : List ℕ)
    → IfOk (rebuild_patch line block) (λ p. p.line ≡ line)
unfolding rebuild_patch
rebuild_patch-line line block = grind arith

address_patch-line : (line : ℕ) (block address : List ℕ)
    → IfOk (address_patch line block address) (λ p. p.line ≡ line)
unfolding address_patch
address_patch-line line block address = grind arith

patch_by-line : (version : Version) (line : ℕ) (ws : List (List ℕ))
    → IfOk (patch_by version line ws) (λ p. p.line ≡ line)
unfolding patch_at patch_by
patch_by-line version line ws = grind
    (arith, set_patch-line, set_if_patch-line, fill_patch-line, rebuild_patch-line, address_patch-line)

then_keeps : (line earlier : ℕ) (r : Result Patch ScriptFault) (p : Patch)
    → IfOk r (λ q. q.line ≡ line)
    → ((r >>= at_limit line earlier) >>= λ found. Ok (patch_meaning found)) ≡ Ok (content.Patch p)
    → (p.line ≡ line) × (((r >>= at_limit line 0) >>= λ found. Ok (patch_meaning found))
    ≡ Ok (content.Patch p))
then_keeps line earlier (Err e) p at is = absurd cc
then_keeps line earlier (Ok q) p at is = kept (nat_le patch_limit earlier) refl is
  where
    kept : (b : Bool) → nat_le patch_limit earlier ≡ b
        → (cond b (Err (TooMany line)) (Ok (Some q)) >>= λ found. Ok (patch_meaning found))
        ≡ Ok (content.Patch p)
        → (p.line ≡ line)
        × ◌≡◌ {A = Result LineContent ScriptFault} (Ok (content.Patch q)) (Ok (content.Patch p))
    kept true which is = absurd cc
    kept false which is =
        let same : q ≡ p = cc in
        (subst (λ x. x.line ≡ line) same at, is)

-- the patch of a line does not depend on the number of patches before it
pub patch_read : (v : Version) (line earlier : ℕ) (text : List ℕ) (p : Patch)
    → meaning_at (Some v) line earlier text ≡ Ok (content.Patch p)
    → (p.line ≡ line) × (meaning_at (Some v) line 0 text ≡ Ok (content.Patch p))
unfolding line_at
patch_read v line earlier text p = by_passed (is_passed_over (words text))
  where
    by_passed : (b : Bool)
        → (cond b (Ok None) (patch_by v line (words text) >>= at_limit line earlier)
        >>= λ found. Ok (patch_meaning found)) ≡ Ok (content.Patch p)
        → (p.line ≡ line)
        × ((cond b (Ok None) (patch_by v line (words text) >>= at_limit line 0)
        >>= λ found. Ok (patch_meaning found)) ≡ Ok (content.Patch p))
    by_passed true is = absurd cc
    by_passed false is =
        then_keeps line earlier (patch_by v line (words text)) p (patch_by-line v line (words text)) is

-- there is no head line after a head line
pub no_head_below : (v w : Version) (line earlier : ℕ) (text : List ℕ) {A : Type 0}
    → meaning_at (Some v) line earlier text ≡ Ok (content.Head w) → A
no_head_below v w line earlier text = go (line_at v line earlier text)
  where
    go : {A : Type 0} (r : Result (Option Patch) ScriptFault)
        → (r >>= λ found. Ok (patch_meaning found)) ≡ Ok (content.Head w) → A
    go (Ok None) is = absurd cc
    go (Ok (Some p)) is = absurd cc
    go (Err e) is = absurd cc

-- there is no patch before a head line
pub no_patch_above : (line earlier : ℕ) (text : List ℕ) (p : Patch) {A : Type 0}
    → meaning_at None line earlier text ≡ Ok (content.Patch p) → A
no_patch_above line earlier text p = go (head_at line text)
  where
    go : {A : Type 0} (r : Result (Option Version) ScriptFault)
        → (r >>= λ found. Ok (head_meaning found)) ≡ Ok (content.Patch p) → A
    go (Ok None) is = absurd cc
    go (Ok (Some v)) is = absurd cc
    go (Err e) is = absurd cc

pub AreEntries-push : (text : List ℕ) (v : Version) (e : Entry) (p : Patch) (es : List Entry)
    (ps : List Patch) → AreEntries text v 0 es ps → IsEntry text v 0 e p
    → AreEntries text v 0 (es ++ e ∷ []) (ps ++ p ∷ [])
AreEntries-push text v e p [] [] entries entry = record {
  count = refl;
  each = λ k f q inside. at k f q inside;
}
  where
    at : (k : ℕ) (f : Entry) (q : Patch) → k < length (e ∷ [])
        → IsEntry text v 0 (get_or (e ∷ []) k f) (get_or (p ∷ []) k q)
    at zero f q inside = entry
    at (suc k) f q inside = absurd (omega arith)
AreEntries-push text v e p [] (q ∷ ps) entries entry = absurd (omega (arith, entries.count))
AreEntries-push text v e p (f ∷ es) [] entries entry = absurd (omega (arith, entries.count))
AreEntries-push text v e p (f ∷ es) (q ∷ ps) entries entry =
    let more =
    AreEntries-push text v e p es ps (record {
      count = omega (arith, entries.count);
      each = λ k g r inside. entries.each (suc k) g r (omega arith);
    }) entry in
    record {
      count = omega (arith, more.count);
      each = λ k g r inside. at more k g r inside;
    }
  where
    at : AreEntries text v 0 (es ++ e ∷ []) (ps ++ p ∷ []) → (k : ℕ) (g : Entry) (r : Patch)
        → k < length (f ∷ (es ++ e ∷ []))
        → IsEntry text v 0 (get_or (f ∷ (es ++ e ∷ [])) k g) (get_or (q ∷ (ps ++ p ∷ [])) k r)
    at more zero g r inside = entries.each 0 g r (omega arith)
    at more (suc k) g r inside = more.each k g r (omega arith)

pub LinesRise-push : (ps : List Patch) (p : Patch) → LinesRise ps → All (λ q. q.line < p.line) ps
    → LinesRise (ps ++ p ∷ [])
LinesRise-push [] p rises below = (All-nil (λ q. p.line < q.line), tt)
LinesRise-push (q ∷ ps) p rises below = (
  All-push (λ r. q.line < r.line) ps p rises.0 (All-head (λ r. r.line < p.line) q ps below),
  LinesRise-push ps p rises.1 (All-tail (λ r. r.line < p.line) q ps below),
)
