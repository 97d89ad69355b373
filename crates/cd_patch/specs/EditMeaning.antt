-- The meaning of each edit for the sectors that its patch meets. This is the only definition of
-- patches that has a row for each edit.
use Rattle.std.specs.Prelude.{ℕ, Bool, true, false, not, ◌&&◌, List, [], ◌++◌, drop, replicate, Option, Some, None, unwrap_or}
use Rattle.cd_script.specs.PatchForm.{Edit}
use Rattle.cd_script.specs.declared.patch.Edit.TheVariants.{Put, Fill, Rebuild, Address}

-- the meaning of an edit for the blocks that its patch meets
pub record EditMeaning : Type 0 where
  -- the user bytes that it writes, from the patch's offset on
  pub bytes : List ℕ
  -- the old bytes that must be in their place; none if any bytes may be there
  pub old : List ℕ
  -- the address that it writes into the header
  pub address : Option (List ℕ)
  -- whether it changes the existing sector; false if it encodes the sector again
  pub keeps_old : Bool

-- the defaults of each row: nothing is written, no old byte is named, and the sector is not encoded
-- again
abbrev pub nothing : EditMeaning
nothing = record { bytes = []; old = []; address = None; keeps_old = true }

-- a row for each edit
abbrev pub meaning : Edit → EditMeaning
meaning (Put bytes was) = record nothing { bytes = bytes; old = unwrap_or was [] }
meaning (Fill count value) = record nothing { bytes = replicate count value }
meaning Rebuild = record nothing { keeps_old = false }
meaning (Address bcd) = record nothing { address = Some bcd }

-- the bytes that an edit writes
abbrev pub new_bytes : Edit → List ℕ
new_bytes edit = (meaning edit).bytes

-- the old bytes that must be in their place
abbrev pub old_bytes : Edit → List ℕ
old_bytes edit = (meaning edit).old

-- a header with this address, if there is one
abbrev pub with_address : Option (List ℕ) → List ℕ → List ℕ
with_address None header = header
with_address (Some bcd) header = bcd ++ drop 3 header

-- the header that results from an edit of this header
abbrev pub new_header : Edit → List ℕ → List ℕ
new_header edit header = with_address (meaning edit).address header

-- whether an edit changes the existing sector, and does not encode it again
abbrev pub keeps_old : Edit → Bool
keeps_old edit = (meaning edit).keeps_old

-- whether a damaged sector refuses an edit: not if damage is carried
abbrev pub needs_consistent : Bool → Edit → Bool
needs_consistent carry edit = keeps_old edit && not carry

-- whether an edit leaves a sector's damage as it was
abbrev pub keeps_defect : Bool → Edit → Bool
keeps_defect carry edit = keeps_old edit && carry
