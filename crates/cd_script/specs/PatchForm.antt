-- A patch as all contracts see it, wherever its bytes are stored.
use Rattle.std.specs.Prelude.{ℕ, List, None}
use Rattle.cd_script.specs.declared.patch.Patch.{Patch as AnyPatch}
use Rattle.cd_script.specs.declared.patch.Edit.{Edit as AnyEdit}
use Rattle.cd_script.specs.declared.patch.Edit.TheVariants.{Put, Fill, Rebuild, Address}

-- a patch, whose bytes are lists
abbrev pub Patch : Type 0
Patch = AnyPatch (List ℕ)

-- the effect of a patch
abbrev pub Edit : Type 0
Edit = AnyEdit (List ℕ)

-- an edit that names no old bytes
abbrev pub edit_without_old : Edit → Edit
edit_without_old (Put bytes was) = Put bytes None
edit_without_old (Fill count value) = Fill count value
edit_without_old Rebuild = Rebuild
edit_without_old (Address bcd) = Address bcd

-- a patch that names no old bytes
abbrev pub without_old : Patch → Patch
without_old p = record p { edit = edit_without_old p.edit }
