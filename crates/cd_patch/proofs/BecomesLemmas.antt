-- The result of an edit of a sector: the consistent sector, or the sector with the old defect.
use Rattle.std.proofs.Common.{◌≡◌, ℕ, Bool, true, false, List, length, get_or}
use Rattle.std.proofs.Common.{drop, Option, Some, None, refl, sym, ap, subst, ◌∙◌, arith, lit<}
use Rattle.std.specs.Option.{IfSome}
use Rattle.std.proofs.lemmas.Bool.{and_right}
use Rattle.std.proofs.lemmas.List.{get_or-append_right, get_or-drop}
use Rattle.cd_script.specs.Patch.{IsPatch}
use Rattle.cd_script.specs.PatchForm.{Edit, Patch}
use Rattle.cd_sector.specs.Carried.{IsCarried}
use Rattle.cd_sector.specs.Consistent.{IsConsistent, header_of, user_of}
use Rattle.cd_sector.proofs.CarriedLemmas.{carried_consistent, carried_unique, consistent_carried}
use Rattle.cd_sector.proofs.DefectLemmas.{range-byte}
use Rattle.cd_sector.proofs.SectorLemmas.{mode1-parts, sector_unique}
use Rattle.cd_patch.specs.EditMeaning.{EditMeaning, keeps_defect, keeps_old, meaning}
use Rattle.cd_patch.specs.EditMeaning.{new_header, with_address}
use Rattle.cd_patch.specs.Effect.{Becomes, EditResult}
use Rattle.cd_patch.specs.BySector.{IsSector, SameDamage}
use Rattle.cd_patch.proofs.MeaningLemmas.{IsAddressAlone, patch-fits}

-- ---- by either rule

pub Becomes-sector : (carried : Bool) (old header user new : List ℕ)
    → Becomes carried old header user new → IsSector new
Becomes-sector false old header user new h = record {
  size = h.is_consistent.size;
  bytes = h.is_consistent.bytes;
}
Becomes-sector true old header user new h = record { size = h.size; bytes = h.bytes }

pub Becomes-header : (carried : Bool) (old header user new : List ℕ)
    → Becomes carried old header user new → header_of new ≡ header
Becomes-header false old header user new h = h.has_header
Becomes-header true old header user new h = h.has_header

pub Becomes-user : (carried : Bool) (old header user new : List ℕ)
    → Becomes carried old header user new → user_of new ≡ user
Becomes-user false old header user new h = h.has_user
Becomes-user true old header user new h = h.has_user

pub Becomes-unique : (carried : Bool) (old header user s t : List ℕ)
    → Becomes carried old header user s → Becomes carried old header user t → s ≡ t
Becomes-unique false old header user s t h k =
    sector_unique s t h.is_consistent k.is_consistent (h.has_header ∙ sym k.has_header)
    (h.has_user ∙ sym k.has_user)
Becomes-unique true old header user s t h k = carried_unique old header user s t h k

Becomes-consistent : (carried : Bool) (old header user new : List ℕ) → IsConsistent old
    → get_or header 3 0 ≡ 1 → Becomes carried old header user new → IsConsistent new
Becomes-consistent false old header user new sound mode h = h.is_consistent
Becomes-consistent true old header user new sound mode h =
    carried_consistent old header user new sound mode h

-- a consistent sector has no defect to keep: the result without its defect also keeps its defect
pub Becomes-nothing : (carried : Bool) (old header user new : List ℕ)
    → (carried ≡ true → IsConsistent old) → Becomes false old header user new
    → Becomes carried old header user new
Becomes-nothing false old header user new sound h = h
Becomes-nothing true old header user new sound h =
    subst (λ x. IsCarried old x user new) h.has_header
    (subst (λ x. IsCarried old (header_of new) x new) h.has_user
    (consistent_carried old new (sound refl) h.is_consistent))

-- ---- by an edit

-- an edit that does not keep the defect leaves a consistent sector
pub EditResult-encoded : (carry : Bool) (edit : Edit) (old user new : List ℕ)
    → keeps_defect carry edit ≡ false → EditResult carry edit old user new → IsConsistent new
EditResult-encoded carry edit old user new none h =
    let made = subst (λ b. Becomes b old (new_header edit (header_of old)) user new) none h in
    made.is_consistent

-- an edit that keeps the defect leaves the same damage
pub EditResult-carried : (carry : Bool) (edit : Edit) (old user new : List ℕ)
    → keeps_defect carry edit ≡ true → EditResult carry edit old user new → SameDamage old new
EditResult-carried carry edit old user new keeps h =
    let made = subst (λ b. Becomes b old (new_header edit (header_of old)) user new) keeps h in
    record { sync = made.same_sync; defect = made.same_defect }

-- a consistent sector has the mode byte 01
header-mode : (s : List ℕ) → IsConsistent s → get_or (header_of s) 3 0 ≡ 1
unfolding header_of
header-mode s h = range-byte s 12 16 3 (lit< tt) ∙ (mode1-parts s h.mode).1

-- a new address leaves the mode byte unchanged
with_address-mode : (m : EditMeaning) (address : Option (List ℕ)) (header : List ℕ)
    → IfSome address (IsAddressAlone m) → get_or header 3 0 ≡ 1
    → get_or (with_address address header) 3 0 ≡ 1
with_address-mode m None header only h = h
with_address-mode m (Some bcd) header only h =
    let three : length bcd ≡ 3 = ap length only.is_address.are in
    get_or-append_right bcd (drop 3 header) 3 3 0 three (omega arith) ∙ get_or-drop 3 header 0 0 ∙ h

-- the result of a patch of a consistent sector is consistent
pub EditResult-consistent : (carry : Bool) (p : Patch) (old user new : List ℕ) → IsPatch p
    → IsConsistent old → EditResult carry p.edit old user new → IsConsistent new
EditResult-consistent carry p old user new kept sound h =
    let m = meaning p.edit in
    let header = header_of old in
    let fits = patch-fits p kept in
    let mode = with_address-mode m m.address header fits.address (header-mode old sound) in
    Becomes-consistent (keeps_defect carry p.edit) old
    (new_header p.edit header) user new sound mode h

pub keeps-nothing : (carry : Bool) (edit : Edit) → carry ≡ false → keeps_defect carry edit ≡ false
keeps-nothing carry edit none = and_right (keeps_old edit) carry none
