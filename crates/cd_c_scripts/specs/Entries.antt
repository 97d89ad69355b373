-- The entries of the patches of a script, one for each patch, in the order of application.
use Rattle.std.specs.Prelude.{◌≡◌, ℕ, ◌+◌, ◌*◌, ◌<◌, ◌≤◌, List, [], ◌∷◌, All, Some, Ok, drop, take, length}
use Rattle.std.specs.List.{slice_index_or}
use Rattle.cd_script.specs.ByLine.{meaning_at}
use Rattle.cd_script.specs.Order.{order}
use Rattle.cd_script.specs.PatchForm.{Patch}
use Rattle.cd_script.specs.Script.{script}
use Rattle.cd_script.specs.declared.by_line.LineContent.TheVariants as content
use Rattle.cd_script.specs.declared.version.Version.{Version}
use Rattle.cd_patch.specs.Blocks.{blocks_met}
use Rattle.cd_c_scripts.specs.Flags.{as_asked}
use Rattle.cd_c_scripts.specs.Lines.{head_numbered}
use Rattle.cd_c_scripts.specs.declared.entries.Entry.{Entry}

-- the line of an entry is in a text, and is this patch if it is read again in this version
abbrev pub HasLine : List ℕ → Version → Entry → Patch → Type 0
HasLine text version e p =
    (e.start + e.size ≤ length text)
    × (meaning_at (Some version) e.number 0 (take e.size (drop e.start text)) ≡ Ok (content.Patch p))

-- the entry of a patch that is as the flags require it
pub record IsEntry (text : List ℕ) (version : Version) (flags : ℕ) (e : Entry) (p : Patch)
    : Type 0 where
  pub found : Patch
  pub reads : HasLine text version e found
  pub asked : p ≡ as_asked flags found
  pub block : e.block ≡ found.block
  pub number : e.number ≡ found.line
  pub met : e.blocks_met ≡ blocks_met found

-- an entry is that of no patch: its line is outside the text, or is no patch, or is a patch of
-- another block or of another number of blocks
abbrev pub IsNoEntry : List ℕ → Version → ℕ → Entry → Type 0
IsNoEntry text version flags e = (p : Patch) → IsEntry text version flags e p → ⊥

-- the entries of patches, one for each
pub record AreEntries (text : List ℕ) (version : Version) (flags : ℕ) (es : List Entry)
    (ps : List Patch) : Type 0 where
  pub count : length es ≡ length ps
  pub each : (k : ℕ) (e : Entry) (p : Patch) → k < length es
      → IsEntry text version flags (slice_index_or es k e) (slice_index_or ps k p)

-- a script that was read to its end: the number of its patches and, if there was room, their
-- entries in the order of application
pub record IsIndexed (text : List ℕ) (version : Version) (count : ℕ) (es : List Entry)
    : Type 0 where
  pub patches : List Patch
  pub is_script : script text ≡ Ok patches
  pub counted : count ≡ length patches
  pub entries : count ≤ length es → AreEntries text version 0 (take count es) (order patches)

-- the same, with the number of the script's version
pub record IsRead (text : List ℕ) (number count : ℕ) (es : List Entry) : Type 0 where
  pub version : Version
  pub numbered : head_numbered number ≡ Some (Some version)
  pub indexed : IsIndexed text version count es

-- the line numbers of patches increase along a script
abbrev pub LinesRise : List Patch → Type 0
LinesRise [] = Unit {0}
LinesRise (p ∷ ps) = All (λ q. p.line < q.line) ps × LinesRise ps

-- the line numbers of patches have 32 bits
abbrev pub AllBelow : List Patch → Type 0
AllBelow = All (λ p. p.line < 4294967296)

-- the key by which entries are sorted
abbrev pub entry_key : Entry → ℕ
entry_key e = e.block * 4294967296 + e.number
