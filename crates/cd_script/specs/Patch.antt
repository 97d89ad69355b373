-- The limits of each patch of a script.
use Rattle.std.specs.Prelude.{◌≡◌, ℕ, ◌<◌, ◌≤◌, List, length, All, IfSome}
use Rattle.std.specs.List.Sorted.{IsNonDecreasingBy}
use Rattle.cd_script.specs.PatchForm.{Edit, Patch}
use Rattle.cd_script.specs.declared.patch.Edit.TheVariants.{Put, Fill, Rebuild, Address}
use Rattle.cd_script.specs.Address.{IsAddress}
use Rattle.cd_script.specs.Limits.{bytes_limit, number_limit, offset_limit, patch_limit}

-- at least one byte, and at most as many as a patch may change
pub record IsBytes (bytes : List ℕ) : Type 0 where
  pub some : 1 ≤ length bytes
  pub most : length bytes ≤ bytes_limit
  pub each : All (λ b. b < 256) bytes

-- an edit at an offset: its bytes are within the limits, with as many old bytes as new bytes, and
-- the offset of a rebuild or of an address is 0
abbrev pub IsEditAt : ℕ → Edit → Type 0
IsEditAt offset (Put bytes was) =
    IsBytes bytes × IfSome was (λ old. IsBytes old × (length old ≡ length bytes))
IsEditAt offset (Fill count value) = (1 ≤ count) × (count ≤ bytes_limit) × (value < 256)
IsEditAt offset Rebuild = offset ≡ 0
IsEditAt offset (Address bcd) = (offset ≡ 0) × IsAddress bcd

-- a patch with all its numbers and bytes within the limits of the language
pub record IsPatch (p : Patch) : Type 0 where
  pub block : p.block ≤ number_limit
  pub offset : p.offset ≤ offset_limit
  pub edit : IsEditAt p.offset p.edit

-- patches of one script, in the order of their blocks
pub record IsPatchList (ps : List Patch) : Type 0 where
  pub each : All IsPatch ps
  pub count : length ps ≤ patch_limit
  pub rising : IsNonDecreasingBy (λ p. p.block) ps
