-- The effect of patches on an image: a run over its sectors; the tail is unchanged.
use Rattle.std.specs.Prelude.{◌≡◌, ◌≢◌, ℕ, Bool, true, List, All}
use Rattle.cd_code.specs.Field.{AreBytes}
use Rattle.cd_script.specs.Patch.{IsPatch}
use Rattle.cd_script.specs.PatchForm.{Patch}
use Rattle.cd_patch.specs.BySector.{LeavesOthers}
use Rattle.cd_patch.specs.Sequence.{PatchSequence}
use Rattle.cd_patch.specs.declared.outcome.Outcome.{Outcome}
use Rattle.cd_patch.specs.declared.outcome.Outcome.TheVariants.{Damaged}
use Rattle.cd_sector.specs.Image.{sectors, tail}

-- applied in order to an image whose first block is `base`, with damage carried or not, the patches
-- have these outcomes and leave the image `last`
pub record IsPatched (carry : Bool) (patches : List Patch) (outcomes : List Outcome) (base : ℕ)
    (image last : List ℕ) : Type 0 where
  pub run : PatchSequence carry patches outcomes base (sectors image) (sectors last)
  pub same_tail : tail last ≡ tail image

-- `Holds` is true of each way to patch the image; there is exactly one
abbrev pub EachPatching : Bool → List Patch → ℕ → List ℕ → (List Outcome → List ℕ → Type 0) → Type 0
EachPatching carry patches base image Holds =
    (outcomes : List Outcome) (last : List ℕ) → IsPatched carry patches outcomes base image last
    → Holds outcomes last

-- the patches and the image determine the outcomes and the patched image
abbrev pub PatchedIsDetermined : Type 0
PatchedIsDetermined =
    (carry : Bool) (patches : List Patch) (os os' : List Outcome) (base : ℕ)
    (image last last' : List ℕ)
    → IsPatched carry patches os base image last → IsPatched carry patches os' base image last'
    → (os ≡ os') × (last ≡ last')

-- each list of patches can be applied to each image
abbrev pub PatchedExists : Type 0
PatchedExists =
    (carry : Bool) (patches : List Patch) (base : ℕ) (image : List ℕ) → All IsPatch patches
    → AreBytes image
    → (os : List Outcome) × (last : List ℕ) × IsPatched carry patches os base image last

-- ---- damage carried

-- no patch is refused for damage. A sector that no accepted patch meets is unchanged. Every other
-- sector has the header and the user bytes that the accepted patches leave in order. It has the
-- sync field and the defect of the old sector, part by part, or is consistent if a patch has
-- rebuilt it. The tail is unchanged
pub record CarriesDamage (patches : List Patch) (outcomes : List Outcome) (base : ℕ)
    (image last : List ℕ) : Type 0 where
  pub unrefused : All (λ o. (block : ℕ) → o ≢ Damaged block) outcomes
  pub leaves : LeavesOthers true patches outcomes base (sectors image) (sectors last)
  pub same_tail : tail last ≡ tail image

-- if damage is carried, each way to patch an image carries it
abbrev pub PatchedCarries : Type 0
PatchedCarries =
    (patches : List Patch) (os : List Outcome) (base : ℕ) (image last : List ℕ)
    → All IsPatch patches → AreBytes image
    → IsPatched true patches os base image last → CarriesDamage patches os base image last
