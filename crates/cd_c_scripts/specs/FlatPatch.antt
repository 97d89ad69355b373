-- A patch as a flat record, with its bytes at the front of two buffers.
use Rattle.std.specs.Prelude.{ℕ, ◌==◌, nat_lt, List, [], ◌∷◌, ◌++◌, drop, length, take, Option, Some, None, option_map, unwrap_or, if◌then◌else◌}
use Rattle.cd_script.specs.declared.patch.Edit.TheVariants.{Put, Fill, Rebuild, Address}
use Rattle.cd_script.specs.Limits.{bytes_limit}
use Rattle.cd_script.specs.Patch.{IsPatch}
use Rattle.cd_script.specs.PatchForm.{Edit, Patch}
use Rattle.cd_c_scripts.specs.declared.flat_patch.FlatPatch.{FlatPatch}

-- ---- the patch of a record, whatever the record contains

-- the edit of a `set`: new bytes, and the same number of old bytes if `has_old` is 1; none if there
-- are more than a buffer holds, or `has_old` is neither 0 nor 1
abbrev pub set_edit : ℕ → ℕ → List ℕ → List ℕ → Option Edit
set_edit count has_old new old =
    if nat_lt bytes_limit count then None
    else if has_old == 0 then Some (Put (take count new) None)
    else if has_old == 1 then Some (Put (take count new) (Some (take count old)))
    else None

-- the edit of a record by its verb: `set`, `fill`, `rebuild`, `address`; none for any other verb
abbrev pub flat_edit : FlatPatch → List ℕ → List ℕ → Option Edit
flat_edit r new old =
    if r.verb == 0 then set_edit r.count r.has_old new old
    else if r.verb == 1 then Some (Fill r.count r.value)
    else if r.verb == 2 then Some Rebuild
    else if r.verb == 3 then Some (Address r.address)
    else None

-- the patch of a record, with this line number
abbrev pub flat_patch : ℕ → FlatPatch → List ℕ → List ℕ → Option Patch
flat_patch line r new old =
    option_map (λ edit. record { line = line; block = r.block; offset = r.offset; edit = edit })
    (flat_edit r new old)

-- there is a patch, and it keeps to the limits of the language
abbrev pub IsSomePatch : Option Patch → Type 0
IsSomePatch None = ⊥
IsSomePatch (Some p) = IsPatch p

-- ---- the record of a patch

-- 1 if there are old bytes, else 0
abbrev pub has_old_of : Option (List ℕ) → ℕ
has_old_of None = 0
has_old_of (Some old) = 1

-- the record at this place in which all other fields are 0
abbrev pub blank : ℕ → ℕ → FlatPatch
blank block offset = record {
  block = block;
  offset = offset;
  count = 0;
  verb = 0;
  has_old = 0;
  value = 0;
  address = 0 ∷ 0 ∷ 0 ∷ [];
}

-- the record of an edit at a place; the fields that its verb does not use are 0
abbrev pub flat_patch_of : ℕ → ℕ → Edit → FlatPatch
flat_patch_of block offset (Put bytes was) =
    record (blank block offset) { count = length bytes; has_old = has_old_of was }
flat_patch_of block offset (Fill count value) =
    record (blank block offset) { verb = 1; count = count; value = value }
flat_patch_of block offset Rebuild = record (blank block offset) { verb = 2 }
flat_patch_of block offset (Address bcd) = record (blank block offset) { verb = 3; address = bcd }

-- the bytes that are written to the buffer for new bytes: those of a `set`
abbrev pub new_of : Edit → List ℕ
new_of (Put bytes was) = bytes
new_of (Fill count value) = []
new_of Rebuild = []
new_of (Address bcd) = []

-- the same for old bytes
abbrev pub old_of : Edit → List ℕ
old_of (Put bytes was) = unwrap_or was []
old_of (Fill count value) = []
old_of Rebuild = []
old_of (Address bcd) = []

-- a buffer with these bytes at its front; the rest does not change
abbrev pub with_front : List ℕ → List ℕ → List ℕ
with_front bytes room = bytes ++ drop (length bytes) room
