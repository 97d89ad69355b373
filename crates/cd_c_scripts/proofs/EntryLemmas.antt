-- The entries of a script, and the patches that their lines give.
use Rattle.std.proofs.Common.{◌≡◌, ℕ, zero, suc, ◌<◌, List, [], ◌∷◌, length, drop, get_or, Option, Some, Ok, refl, ap, ◌∙◌, subst, sym, arith, true, false}
use Rattle.std.specs.Prelude.{cond, take, Result}
use Rattle.cd_script.specs.PatchForm.{Patch, edit_without_old, without_old}
use Rattle.cd_script.specs.declared.version.Version.{Version}
use Rattle.cd_script.specs.ByLine.{meaning_at}
use Rattle.cd_script.specs.declared.by_line.LineContent.{LineContent}
use Rattle.cd_script.specs.declared.by_line.LineContent.TheVariants as content
use Rattle.cd_script.specs.declared.fault.ScriptFault.{ScriptFault}
use Rattle.cd_patch.specs.Blocks.{blocks_met}
use Rattle.cd_script.specs.declared.patch.Edit.TheVariants.{Put, Fill, Rebuild, Address}
use Rattle.cd_c_scripts.specs.declared.entries.Entry.{Entry}
use Rattle.cd_c_scripts.specs.Entries.{AreEntries, IsEntry}
use Rattle.cd_c_scripts.specs.Flags.{all_as_asked, as_asked, compares}

-- without its old bytes, a patch begins in the same block and touches the same blocks
pub asked_block : (flags : ℕ) (p : Patch) → (as_asked flags p).block ≡ p.block
asked_block flags p = grind arith

pub asked_line : (flags : ℕ) (p : Patch) → (as_asked flags p).line ≡ p.line
asked_line flags p = grind arith

met_without : (p : Patch) → blocks_met (without_old p) ≡ blocks_met p
unfolding blocks_met
met_without p = elim p.edit as (λ e. blocks_met (record p { edit = edit_without_old e }) ≡ blocks_met (record p { edit = e })) [
  | Put bytes was ↦ refl
  | Fill count value ↦ refl
  | Rebuild ↦ refl
  | Address bcd ↦ refl
]

pub asked_met : (flags : ℕ) (p : Patch) → blocks_met (as_asked flags p) ≡ blocks_met p
asked_met flags p = elim (compares flags) as (λ b. blocks_met (cond b p (without_old p)) ≡ blocks_met p) [
  | true ↦ refl
  | false ↦ met_without p
]

-- the numbers of a patch in its entry
pub record Said (e : Entry) (p : Patch) : Type 0 where
  pub block : p.block ≡ e.block
  pub line : p.line ≡ e.number
  pub met : blocks_met p ≡ e.blocks_met

pub entry_says : {text : List ℕ} {version : Version} {flags : ℕ} {e : Entry} {p : Patch}
    → IsEntry text version flags e p → Said e p
entry_says {flags = flags} {p = p} entry = record {
  block = ap (λ q. q.block) entry.asked ∙ asked_block flags entry.found ∙ sym entry.block;
  line = ap (λ q. q.line) entry.asked ∙ asked_line flags entry.found ∙ sym entry.number;
  met = ap blocks_met entry.asked ∙ asked_met flags entry.found ∙ sym entry.met;
}

-- the line of an entry, read again, gives a patch
pub patch_comes : {text : List ℕ} {named : Version} {flags : ℕ} {e : Entry} {p : Patch}
    {bytes : List ℕ} {read : Option (Option Version)} {v : Option Version}
    {result : Result LineContent ScriptFault}
    (entry : IsEntry text named flags e p) → read ≡ Some v → read ≡ Some (Some named)
    → bytes ≡ take e.size (drop e.start text) → result ≡ meaning_at v e.number 0 bytes
    → result ≡ Ok (content.Patch entry.found)
patch_comes {text} {named} {flags} {e} {p} {bytes} {read} {v} {result} entry is named_is line meaning =
    let same : v ≡ Some named = cc in
    meaning ∙ ap (λ u. meaning_at u e.number 0 bytes) same
    ∙ ap (λ l. meaning_at (Some named) e.number 0 l) line ∙ entry.reads.1

-- the patch that was read from the line of an entry is the entry's patch
pub same_patch : {text : List ℕ} {named : Version} {flags : ℕ} {e : Entry} {p found : Patch}
    {bytes : List ℕ} {read : Option (Option Version)} {v : Option Version}
    {result : Result LineContent ScriptFault}
    (entry : IsEntry text named flags e p) → read ≡ Some v → read ≡ Some (Some named)
    → bytes ≡ take e.size (drop e.start text) → result ≡ meaning_at v e.number 0 bytes
    → result ≡ Ok (content.Patch found) → found ≡ entry.found
same_patch {text} {named} {flags} {e} {p} {found} {bytes} {read} {v} {result} entry is named_is line
    meaning got =
    let all = patch_comes entry is named_is line meaning in
    cc

-- ---- the patches as the flags require them

pub map_at : (flags : ℕ) (ps : List Patch) (k : ℕ) (d e : Patch) → k < length ps
    → get_or (all_as_asked flags ps) k d ≡ as_asked flags (get_or ps k e)
map_at flags [] k d e inside = absurd (omega arith)
map_at flags (p ∷ ps) zero d e inside = refl
map_at flags (p ∷ ps) (suc k) d e inside = map_at flags ps k d e (omega arith)

pub map_size : (flags : ℕ) (ps : List Patch) → length (all_as_asked flags ps) ≡ length ps
map_size flags [] = refl
map_size flags (p ∷ ps) = ap suc (map_size flags ps)

entry_asked : {text : List ℕ} {version : Version} {e : Entry} {p : Patch} (flags : ℕ)
    → IsEntry text version 0 e p → IsEntry text version flags e (as_asked flags p)
entry_asked flags entry = record {
  found = entry.found;
  reads = entry.reads;
  asked = ap (as_asked flags) entry.asked;
  block = entry.block;
  number = entry.number;
  met = entry.met;
}

pub AreEntries-asked : {text : List ℕ} {version : Version} {es : List Entry} {ps : List Patch}
    (flags : ℕ) → AreEntries text version 0 es ps
    → AreEntries text version flags es (all_as_asked flags ps)
AreEntries-asked {text} {version} {es} {ps} flags entries = record {
  count = entries.count ∙ sym (map_size flags ps);
  each = λ k e p inside.
      subst (IsEntry text version flags (get_or es k e))
      (sym (map_at flags ps k p p (omega (arith, inside, entries.count))))
      (entry_asked flags (entries.each k e p inside));
}

-- the patch of an entry is one
pub entry_patch : {text : List ℕ} {version : Version} {flags : ℕ} {e : Entry} {p q : Patch}
    → IsEntry text version flags e p → IsEntry text version flags e q → q ≡ p
entry_patch {text} {version} {flags} {e} {p} {q} is is' =
    let read : Ok (content.Patch is.found) ≡ Ok (content.Patch is'.found) = sym is.reads.1 ∙ is'.reads.1 in
    let same : is'.found ≡ is.found = cc in
    is'.asked ∙ ap (as_asked flags) same ∙ sym is.asked
