-- Patches on a piece of an image: consecutive sectors, of which the first is block `first`. The image
-- begins at block `base`, and may have sectors before and after the piece.
use Rattle.std.specs.Prelude.{◌≡◌, ℕ, zero, suc, ◌+◌, ◌<◌, ◌≤◌, ◌⊎◌, Bool, true, List, [], ◌++◌, All, Some, drop, length, take}
use Rattle.std.specs.List.{slice_get, slice_index_or}
use Rattle.cd_sector.specs.Image.{base_limit}
use Rattle.cd_script.specs.PatchForm.{Patch}
use Rattle.cd_script.specs.declared.version.Version.{Version}
use Rattle.cd_patch.specs.Blocks.{blocks_met}
use Rattle.cd_patch.specs.OutcomeNumbers.{outcome_block, outcome_number, outcome_offset}
use Rattle.cd_patch.specs.Sequence.{PatchSequence}
use Rattle.cd_patch.specs.declared.outcome.Outcome.{Outcome}
use Rattle.cd_c_scripts.specs.Entries.{AreEntries, IsNoEntry}
use Rattle.cd_c_scripts.specs.Flags.{all_as_asked, carries, flag_limit}
use Rattle.cd_c_scripts.specs.declared.entries.Entry.{Entry}
use Rattle.cd_c_scripts.specs.declared.pieces.Answer.{Answer}

-- a patch with this first block and this number of blocks does the same on a piece as on the whole
-- image: it begins below the image; or it does not begin before the piece, and does not reach beyond
-- it, unless the image ends with the piece
abbrev pub AreBlocksIn : ℕ → ℕ → ℕ → Bool → ℕ → ℕ → Type 0
AreBlocksIn base first count is_last block met =
    (block < base) ⊎ ((first ≤ block) × ((block + met ≤ first + count) ⊎ (is_last ≡ true)))

-- the same for a patch
abbrev pub Fits : ℕ → ℕ → ℕ → Bool → Patch → Type 0
Fits base first count is_last p = AreBlocksIn base first count is_last p.block (blocks_met p)

-- the answer for a patch: the number of its line, and its outcome as numbers
pub record Tells (number : ℕ) (outcome : Outcome) (t : Answer) : Type 0 where
  pub line : t.number ≡ number
  pub result_is : t.result ≡ outcome_number outcome
  pub block_is : t.block ≡ outcome_block outcome
  pub offset_is : t.offset ≡ outcome_offset outcome

-- patches, applied in order to the sectors from block `first` on, have turned `old` into `new`, and
-- have one answer each
pub record AreApplied (carry : Bool) (ps : List Patch) (first : ℕ) (old new : List (List ℕ))
    (answers : List Answer) : Type 0 where
  pub outcomes : List Outcome
  pub sequence : PatchSequence carry ps outcomes first old new
  pub told : (k : ℕ) (p : Patch) (o : Outcome) (t : Answer) → k < length ps
      → Tells (slice_index_or ps k p).line (slice_index_or outcomes k o) (slice_index_or answers k t)

-- the first `n` entries are entries of patches of the script, whatever the other ones are; these
-- patches fit on the piece, were applied to it in order, and have the first `n` answers. The other
-- answers are as before
pub record IsDone (text : List ℕ) (version : Version) (flags base first : ℕ) (is_last : Bool)
    (es : List Entry) (n : ℕ) (old new : List (List ℕ)) (answers answers' : List Answer)
    : Type 0 where
  pub patches : List Patch
  pub entries : AreEntries text version flags (take n es) patches
  pub fit : All (Fits base first (length old) is_last) patches
  pub applied : AreApplied (carries flags) patches first old new answers'
  pub room : length answers' ≡ length answers
  pub others : drop n answers' ≡ drop n answers

-- the entry at a place is left for another piece, by its own numbers
abbrev pub IsLeft : ℕ → ℕ → ℕ → Bool → List Entry → ℕ → Type 0
IsLeft base first count is_last es n =
    (e : Entry) → slice_get es n ≡ Some e
    → AreBlocksIn base first count is_last e.block e.blocks_met → ⊥

-- there is no entry at a place, or it is the entry of no patch
abbrev pub IsOfNoPatch : List ℕ → Version → ℕ → List Entry → ℕ → Type 0
IsOfNoPatch text version flags es n =
    (e : Entry) → slice_get es n ≡ Some e → IsNoEntry text version flags e

-- no call does anything with these numbers: no image has the base, the piece begins before the image,
-- or a flag does not exist
abbrev pub AreRefused : ℕ → ℕ → ℕ → Type 0
AreRefused base first flags = (base_limit < base) ⊎ (first < base) ⊎ (flag_limit ≤ flags)

-- ---- laws of pieces, which the contracts of `laws.rt` name

-- patches that fit on a piece do the same on the whole image. `front` and `more` are the sectors of
-- the image before and after the piece; they stay
abbrev pub PiecesAreOfImages : Type 0
PiecesAreOfImages =
    (carry is_last : Bool) (ps : List Patch) (outcomes : List Outcome)
    (front old new more : List (List ℕ)) (base first : ℕ)
    → first ≡ base + length front → (is_last ≡ true → more ≡ [])
    → All (Fits base first (length old) is_last) ps
    → PatchSequence carry ps outcomes first old new
    → PatchSequence carry ps outcomes base (front ++ (old ++ more)) (front ++ (new ++ more))

-- patches on an image, and then others on its result, are all of them on the image
abbrev pub PiecesFollow : Type 0
PiecesFollow =
    (carry : Bool) (ps ps' : List Patch) (outcomes outcomes' : List Outcome) (base : ℕ)
    (old middle new : List (List ℕ))
    → PatchSequence carry ps outcomes base old middle
    → PatchSequence carry ps' outcomes' base middle new
    → PatchSequence carry (ps ++ ps') (outcomes ++ outcomes') base old new

-- the next piece of a client: it has the sectors from the end of `front` on, is followed by `more`,
-- and its first `count` patches fit on it; then `sent` more sectors are written. `Others` are the
-- pieces after it
pub record PieceThen (carry : Bool) (base : ℕ) (ps : List Patch) (outcomes : List Outcome)
    (front rest : List (List ℕ))
    (Others : List Patch → List Outcome → List (List ℕ) → List (List ℕ) → Type 0) : Type 0 where
  pub is_last : Bool
  pub count : ℕ
  pub sent : ℕ
  pub window : List (List ℕ)
  pub window' : List (List ℕ)
  pub more : List (List ℕ)
  pub here : List Outcome
  pub later : List Outcome
  pub cut : rest ≡ window ++ more
  pub last : is_last ≡ true → more ≡ []
  pub fit : All (Fits base (base + length front) (length window) is_last) (take count ps)
  pub applied : PatchSequence carry (take count ps) here (base + length front) window window'
  pub outcomes_are : outcomes ≡ here ++ later
  pub others : Others (drop count ps) later (front ++ take sent window') (drop sent window' ++ more)

-- a client that has written `front`, and has `rest` of the image to read, or in hand, applies
-- patches by this number of pieces. It then has written `out`
abbrev pub Streams : Bool → ℕ → ℕ → List Patch → List Outcome → List (List ℕ) → List (List ℕ)
    → List (List ℕ) → Type 0
Streams carry base zero ps outcomes front rest out =
    (ps ≡ []) × (outcomes ≡ []) × (out ≡ front ++ rest)
Streams carry base (suc pieces) ps outcomes front rest out =
    PieceThen carry base ps outcomes front rest
    (λ ps' outcomes' front' rest'. Streams carry base pieces ps' outcomes' front' rest' out)

-- whatever pieces a client chooses, it makes the patched image, with the outcomes on the whole image
abbrev pub StreamsAreOfImages : Type 0
StreamsAreOfImages =
    (carry : Bool) (base pieces : ℕ) (ps : List Patch) (outcomes : List Outcome)
    (image out : List (List ℕ)) → Streams carry base pieces ps outcomes [] image out
    → PatchSequence carry ps outcomes base image out

-- the entries of an index are those of the patches as the flags require them
abbrev pub EntriesAreAsAsked : Type 0
EntriesAreAsAsked =
    (text : List ℕ) (version : Version) (flags : ℕ) (es : List Entry) (ps : List Patch)
    → AreEntries text version 0 es ps → AreEntries text version flags es (all_as_asked flags ps)

-- the entries that are left are those of the patches that are left
abbrev pub EntriesAreLeft : Type 0
EntriesAreLeft =
    (text : List ℕ) (version : Version) (flags n : ℕ) (es : List Entry) (ps : List Patch)
    → AreEntries text version flags es ps
    → AreEntries text version flags (drop n es) (drop n ps)

-- the entries of a text have only one list of patches
abbrev pub EntriesAreOfOne : Type 0
EntriesAreOfOne =
    (text : List ℕ) (version : Version) (flags n : ℕ) (es : List Entry) (ps qs : List Patch)
    → n ≤ length es → AreEntries text version flags es ps
    → AreEntries text version flags (take n es) qs → qs ≡ take n ps
