-- Indexing a script, line by line.
use Rattle.std.proofs.Common.{◌≡◌, ℕ, ◌+◌, ◌<◌, ◌≤◌, List, [], ◌∷◌, ◌++◌, length, take, drop, Option, None, Some, Result, Ok, Err, refl, sym, ap, ◌∙◌, subst, arith, append-nil, length-append}
use Rattle.std.specs.Prelude.{All}
use Rattle.std.proofs.Math.Nat.{add-zero}
use Rattle.std.proofs.lemmas.List.{nil_from_length}
use Rattle.std.proofs.Math.Seq.{drop-drop}
use Rattle.cd_patch.specs.Blocks.{blocks_met}
use Rattle.std.specs.Option.{option_to_list}
use Rattle.std.specs.Str.Lines.{lines}
use Rattle.std.proofs.lemmas.List.Elements.{All-nil, All-push}
use Rattle.cd_script.specs.ByLine.{by_line, end_at, meaning_at, patch_in, version_after}
use Rattle.cd_script.specs.PatchForm.{Patch}
use Rattle.cd_script.specs.Script.{script}
use Rattle.cd_script.specs.declared.by_line.LineContent.{LineContent}
use Rattle.cd_script.specs.declared.by_line.LineContent.TheVariants as content
use Rattle.cd_script.specs.declared.fault.ScriptFault.{ScriptFault}
use Rattle.cd_script.specs.declared.fault.ScriptFault.TheVariants.{Head}
use Rattle.cd_script.specs.declared.version.Version.{Version}
use Rattle.cd_script.proofs.ByLineLemmas.{reads-by_line}
use Rattle.cd_script.proofs.LineLemmas.{regroup, with_front}
use Rattle.cd_c_scripts.specs.declared.entries.Entry.{Entry}
use Rattle.cd_c_scripts.specs.Entries.{AllBelow, AreEntries, IsEntry, IsIndexed, LinesRise}
use Rattle.cd_script.specs.Order.{order}
use Rattle.cd_c_scripts.proofs.PatchLineLemmas.{AreEntries-push, LinesRise-push, no_head_below, no_patch_above, patch_read}

-- ---- the progress: `front` was read, and `rest` is left

pub record Indexing (text : List ℕ) (version : Option Version) (number count start : ℕ)
    (entries : List Entry) : Type 0 where
  pub front : List Patch
  pub left : script text ≡ with_front front (by_line version (number + 1) count (lines (drop start text)))
  pub counted : count ≡ length front
  pub below : All (λ p. p.line ≤ number) front
  pub rises : LinesRise front
  pub headless : version ≡ None → count ≡ 0
  pub each : (v : Version) → version ≡ Some v → count ≤ length entries
      → AreEntries text v 0 (take count entries) front

pub Indexing-start : (text : List ℕ) (entries : List Entry) → Indexing text None 0 0 0 entries
Indexing-start text entries = record {
  front = [];
  left = reads-by_line text ∙ first (by_line None 1 0 (lines text));
  counted = refl;
  below = All-nil (λ (p : Patch). p.line ≤ 0);
  rises = tt;
  headless = λ none. refl;
  each = λ v none room. absurd cc;
}
  where
    first : (r : Result (List Patch) ScriptFault) → r ≡ with_front [] r
    first (Ok ps) = refl
    first (Err e) = refl

-- the content of a line, and then the rest
pub by_line-step : (version : Option Version) (number count : ℕ) (line : List ℕ)
    (rest all : List (List ℕ)) (meaning : LineContent) (front : List Patch)
    → all ≡ line ∷ rest → meaning_at version number count line ≡ Ok meaning
    → with_front front (by_line version number count all)
    ≡ with_front (front ++ option_to_list (patch_in meaning))
    (by_line (version_after version meaning) (number + 1)
    (count + length (option_to_list (patch_in meaning))) rest)
unfolding by_line
by_line-step version number count line rest all meaning front parts reads =
    rw (parts, reads) (regroup front (patch_in meaning) _)

pub by_line-fault : (version : Option Version) (number count : ℕ) (line : List ℕ)
    (rest all : List (List ℕ)) (e : ScriptFault) (front : List Patch)
    → all ≡ line ∷ rest → meaning_at version number count line ≡ Err e
    → with_front front (by_line version number count all) ≡ Err e
unfolding by_line
by_line-fault version number count line rest all e front parts reads = rw (parts, reads) refl

pub by_line-end : (version : Option Version) (number count : ℕ) (all : List (List ℕ))
    (front : List Patch) → all ≡ []
    → with_front front (by_line version number count all) ≡ with_front front (end_at version number)
unfolding by_line
by_line-end version number count all front none = rw none refl

-- ---- one line more

module _ {text : List ℕ} {version : Option Version} {number count start : ℕ} {es : List Entry}
    (h : Indexing text version number count start es) (size taken : ℕ)
    (cut : lines (drop start text)
    ≡ take size (drop start text) ∷ lines (drop taken (drop start text))) where
  further : lines (drop taken (drop start text)) ≡ lines (drop (start + taken) text)
  further = ap lines (drop-drop taken start text)

  pub Index-fault : (e : ScriptFault)
      → meaning_at version (number + 1) count (take size (drop start text)) ≡ Err e
      → script text ≡ Err e
  Index-fault e reads =
      h.left ∙ by_line-fault version (number + 1) count _ _ (lines (drop start text)) e h.front cut reads

  step : (meaning : LineContent)
      → meaning_at version (number + 1) count (take size (drop start text)) ≡ Ok meaning
      → script text ≡ with_front (h.front ++ option_to_list (patch_in meaning))
      (by_line (version_after version meaning) (number + 1 + 1)
      (count + length (option_to_list (patch_in meaning))) (lines (drop (start + taken) text)))
  step meaning reads =
      h.left
      ∙ by_line-step version (number + 1) count _ _ (lines (drop start text)) meaning h.front cut reads
      ∙ ap (λ rest. with_front (h.front ++ option_to_list (patch_in meaning))
      (by_line (version_after version meaning) (number + 1 + 1)
      (count + length (option_to_list (patch_in meaning))) rest)) further

  pub Index-passed : meaning_at version (number + 1) count (take size (drop start text))
      ≡ Ok content.PassedOver → Indexing text version (number + 1) count (start + taken) es
  Index-passed reads = record {
    front = h.front;
    left = simp (append-nil, add-zero) at (step content.PassedOver reads);
    counted = h.counted;
    below = λ k d inside. omega (arith, h.below k d inside);
    rises = h.rises;
    headless = h.headless;
    each = h.each;
  }

  pub Index-head : (w : Version) → version ≡ None
      → meaning_at version (number + 1) count (take size (drop start text)) ≡ Ok (content.Head w)
      → Indexing text (Some w) (number + 1) count (start + taken) es
  Index-head w above reads =
      let none : count ≡ 0 = h.headless above in
      let empty : h.front ≡ [] = nil_from_length h.front (omega (arith, none, h.counted)) in
      record {
        front = h.front;
        left = simp (append-nil, add-zero) at (step (content.Head w) reads);
        counted = h.counted;
        below = λ k d inside. omega (arith, h.below k d inside);
        rises = h.rises;
        headless = λ never. absurd cc;
        each = λ v is room.
            rw (none, empty)
            (record { count = refl; each = λ k e p inside. absurd (omega arith) });
      }

  pub Index-patch : (v : Version) (p : Patch) (e : Entry) (es' : List Entry) → version ≡ Some v
      → meaning_at version (number + 1) count (take size (drop start text)) ≡ Ok (content.Patch p)
      → (count + 1 ≤ length es' → (count ≤ length es) × (take (count + 1) es' ≡ take count es ++ e ∷ []))
      → e.block ≡ p.block → e.number ≡ number + 1 → e.start ≡ start → e.size ≡ size
      → e.blocks_met ≡ blocks_met p → start + size ≤ length text
      → Indexing text version (number + 1) (count + 1) (start + taken) es'
  Index-patch v p e es' is reads grown block at from long met inside =
      let read =
      patch_read v (number + 1) count (take size (drop start text)) p
      (subst (λ u. meaning_at u (number + 1) count (take size (drop start text))
      ≡ Ok (content.Patch p)) is reads) in
      let entry : IsEntry text v 0 e p =
      record {
        found = p;
        reads = (omega (arith, from, long, inside), rw (at, from, long) read.1);
        asked = refl;
        block = block;
        number = at ∙ sym read.0;
        met = met;
      } in
      record {
        front = h.front ++ p ∷ [];
        left = step (content.Patch p) reads;
        counted = omega (arith, h.counted, length-append h.front (p ∷ []));
        below =
            All-push (λ q. q.line ≤ number + 1) h.front p
            (λ k d inside. omega (arith, h.below k d inside)) (omega (arith, read.0));
        rises =
            LinesRise-push h.front p h.rises
            (λ k d inside. omega (arith, h.below k d inside, read.0));
        headless = λ none. absurd cc;
        each = λ w is' room.
            let same : w ≡ v = cc in
            let more = grown room in
            subst (λ u. AreEntries text u 0 (take (count + 1) es') (h.front ++ p ∷ [])) (sym same)
            (subst (λ l. AreEntries text v 0 l (h.front ++ p ∷ [])) (sym more.1)
            (AreEntries-push text v e p (take count es) h.front (h.each v is more.0) entry));
      }

-- a head line is the first one, and a patch is after it
pub head_above : (version : Option Version) (w : Version) (line earlier : ℕ) (text : List ℕ)
    → meaning_at version line earlier text ≡ Ok (content.Head w) → version ≡ None
head_above None w line earlier text is = refl
head_above (Some v) w line earlier text is = no_head_below v w line earlier text is

pub patch_below : (version : Option Version) (p : Patch) (line earlier : ℕ) (text : List ℕ)
    → meaning_at version line earlier text ≡ Ok (content.Patch p)
    → (v : Version) × (version ≡ Some v)
patch_below None p line earlier text is = no_patch_above line earlier text p is
patch_below (Some v) p line earlier text is = (v, refl)

-- ---- at the end

module _ {text : List ℕ} {version : Option Version} {number count start : ℕ} {es : List Entry}
    (h : Indexing text version number count start es) (none : lines (drop start text) ≡ []) where
  pub Index-headless : version ≡ None → script text ≡ Err (Head (number + 1))
  Index-headless is =
      h.left ∙ by_line-end version (number + 1) count (lines (drop start text)) h.front none
      ∙ rw is refl

  pub Index-script : (v : Version) → version ≡ Some v → script text ≡ Ok h.front
  Index-script v is =
      h.left ∙ by_line-end version (number + 1) count (lines (drop start text)) h.front none
      ∙ rw is (ap (λ (qs : List Patch). Ok qs) (append-nil h.front))

-- the entries of a whole script
pub Index-entries : {text : List ℕ} {version : Option Version} {number count start : ℕ}
    {es : List Entry} (h : Indexing text version number count start es) (v : Version)
    (sorted : List Entry) → length sorted ≡ length es
    → lines (drop start text) ≡ [] → version ≡ Some v → number < 4294967296
    → (count ≤ length es → (u : Version) (ps : List Patch) → LinesRise ps → AllBelow ps
    → AreEntries text u 0 (take count es) ps → AreEntries text u 0 (take count sorted) (order ps))
    → IsIndexed text v count sorted
Index-entries {count = count} {es = es} h v sorted size none is small sorts = record {
  patches = h.front;
  is_script = Index-script h none v is;
  counted = h.counted;
  entries = λ room.
      let before : count ≤ length es = omega (arith, room, size) in
      sorts before v h.front h.rises (λ k d inside. omega (arith, h.below k d inside, small))
      (h.each v is before);
}
