-- The user data of the blocks that a patch meets, byte by byte, before and after.
use Rattle.std.proofs.Common.{◌≡◌, ℕ, zero, suc, ◌+◌, ◌-◌, ◌*◌, ◌<◌, ◌≤◌, ◌⊎◌, inl, inr, ◌&&◌, nat_lt, Bool, List, [], ◌++◌, length, get_or, take, drop, Some, sym, ap, subst, ◌∙◌, arith, lit<}
use Rattle.std.specs.Prelude.{if◌then◌else◌, nat_le, slice_range}
use Rattle.std.specs.List.{All}
use Rattle.std.proofs.lemmas.Bool.{and_from, and_left, and_right, cases_lt, cond-false, cond-true, le-leb, le-ltb, lt-leb, lt-ltb}
use Rattle.std.proofs.lemmas.Option.{same_Some}
use Rattle.cd_code.specs.Field.{AreBytes}
use Rattle.cd_script.specs.Patch.{IsPatch}
use Rattle.cd_script.specs.PatchForm.{Patch}
use Rattle.cd_sector.specs.Consistent.{user_of}
use Rattle.cd_sector.specs.declared.sector.TheConstants.{USER_SIZE}
use Rattle.cd_sector.proofs.DefectLemmas.{length-range, range-byte}
use Rattle.cd_code.proofs.ByteLemmas.{AreBytes-append, AreBytes-drop, AreBytes-take}
use Rattle.cd_delta.specs.Writing.{with_range}
use Rattle.cd_delta.proofs.UserLemmas.{length-written, written-other, written-range}
use Rattle.cd_patch.specs.Blocks.{blocks_met, sector_at}
use Rattle.cd_patch.specs.EditMeaning.{new_bytes}
use Rattle.cd_patch.specs.Deciding.{joined_user, user_at, user_met}
use Rattle.cd_patch.specs.Effect.{patched_user, user_part}
use Rattle.cd_patch.specs.BySector.{IsSector, byte_by}
use Rattle.cd_patch.proofs.DecidingLemmas.{AreThere, BlocksHaveUsers, joined-byte, length-joined}
use Rattle.cd_patch.proofs.general.Elements.{cases_Option}
use Rattle.cd_patch.proofs.MeaningLemmas.{patch-fits}
use Rattle.cd_patch.proofs.PartLemmas.{length-user}
use Rattle.cd_patch.proofs.RangeLemmas.{range-inside}
use Rattle.cd_patch.proofs.SectorAtLemmas.{sector_at-some, sector_at-within}

-- ---- bytes of one sector

pub IsSector-at : (sectors : List (List ℕ)) (base block : ℕ) (sector : List ℕ)
    → All IsSector sectors → sector_at sectors base block ≡ Some sector → IsSector sector
IsSector-at sectors base block sector each is =
    let within = sector_at-within sectors base block sector is in
    let same : get_or sectors (block - base) [] ≡ sector =
    same_Some _ _ (sym (sector_at-some sectors base block within.0 within.1) ∙ is) in
    subst IsSector same (each (block - base) [] (omega arith))

pub AreBytes-range : (v : List ℕ) (a b : ℕ) → AreBytes v → AreBytes (slice_range v a b)
AreBytes-range v a b h = AreBytes-take (drop a v) (b - a) (AreBytes-drop v a h)

pub AreBytes-user : (sector : List ℕ) → IsSector sector → AreBytes (user_of sector)
unfolding user_of
AreBytes-user sector h = AreBytes-range sector 16 2064 h.bytes

-- ---- user data joined

AreBytes-joined : (sectors : List (List ℕ)) (base first count : ℕ)
    → ((block : ℕ) → AreBytes (user_at (sector_at sectors base block)))
    → AreBytes (joined_user sectors base first count)
AreBytes-joined sectors base first zero h = λ i. lit< tt
AreBytes-joined sectors base first (suc count) h =
    AreBytes-append (user_at (sector_at sectors base first))
    (joined_user sectors base (first + 1) count) (h first)
    (AreBytes-joined sectors base (first + 1) count h)

-- ---- user data with a patch's bytes

-- each byte is the patch's byte within its range, and the old byte elsewhere
written-byte : (user : List ℕ) (offset : ℕ) (bytes : List ℕ) (place : ℕ)
    → offset + length bytes ≤ length user
    → get_or (with_range user offset bytes) place 0
    ≡ (if nat_le offset place && nat_lt place (offset + length bytes)
    then get_or bytes (place - offset) 0 else get_or user place 0)
written-byte user offset bytes place room = elim (cases_lt place offset) [
  | inl before ↦
      written-other user offset bytes place room (inl before)
      ∙ sym (cond-false _ _ _ (and_left _ _ (lt-leb offset place before)))
  | inr from ↦ elim (cases_lt place (offset + length bytes)) [
    | inl inside ↦
        let at : offset + (place - offset) ≡ place = omega arith in
        ap (λ n. get_or (with_range user offset bytes) n 0) (sym at)
        ∙ written-range user offset bytes (place - offset) room (omega arith)
        ∙ sym (cond-true _ _ _
        (and_from _ _ (le-leb offset place from) (lt-ltb place (offset + length bytes) inside)))
    | inr past ↦
        written-other user offset bytes place room (inr past)
        ∙ sym (cond-false _ _ _ (and_right _ _ (le-ltb place (offset + length bytes) past)))
  ]
]

AreBytes-written : (user : List ℕ) (offset : ℕ) (bytes : List ℕ) → AreBytes user → AreBytes bytes
    → AreBytes (with_range user offset bytes)
unfolding with_range
AreBytes-written user offset bytes h k =
    AreBytes-append (take offset user) (bytes ++ drop (offset + length bytes) user)
    (AreBytes-take user offset h)
    (AreBytes-append bytes (drop (offset + length bytes) user) k
    (AreBytes-drop user (offset + length bytes) h))

module _ (carry : Bool) (sectors : List (List ℕ)) (base : ℕ) (p : Patch)
    (each : All IsSector sectors) (there : AreThere carry sectors base p) where
  whole : BlocksHaveUsers USER_SIZE sectors base p.block (blocks_met p)
  whole k below =
      let t = there (p.block + k) (omega arith) (omega arith) in
      ap (λ s. length (user_at s)) t.is
      ∙ length-user t.sector (IsSector-at sectors base (p.block + k) t.sector each t.is).size

  pub length-user_met : length (user_met sectors base p) ≡ USER_SIZE * blocks_met p
  unfolding user_met
  length-user_met = length-joined USER_SIZE sectors base p.block (blocks_met p) whole

  AreBytes-user_met : AreBytes (user_met sectors base p)
  unfolding user_met
  AreBytes-user_met =
      AreBytes-joined sectors base p.block (blocks_met p)
      (λ block. elim (cases_Option (sector_at sectors base block)) [
        | inl none ↦ subst (λ s. AreBytes (user_at s)) (sym none) (λ i. lit< tt)
        | inr some ↦
            subst (λ s. AreBytes (user_at s)) (sym some.1)
            (AreBytes-user some.0 (IsSector-at sectors base block some.0 each some.1))
      ])

  pub user_met-byte : (block offset : ℕ) (sector : List ℕ) → p.block ≤ block
      → block < p.block + blocks_met p → offset < USER_SIZE
      → sector_at sectors base block ≡ Some sector
      → get_or (user_met sectors base p) (USER_SIZE * (block - p.block) + offset) 0
      ≡ get_or (user_of sector) offset 0
  unfolding user_met
  user_met-byte block offset sector from to low is =
      let at : p.block + (block - p.block) ≡ block = omega arith in
      joined-byte USER_SIZE sectors base p.block (blocks_met p) whole (block - p.block) offset
      (omega arith) low
      ∙ ap (λ b. get_or (user_at (sector_at sectors base b)) offset 0) at
      ∙ ap (λ s. get_or (user_at s) offset 0) is

  module _ (kept : IsPatch p) where
    room : p.offset + length (new_bytes p.edit) ≤ length (user_met sectors base p)
    room = omega (arith, range-inside p, length-user_met)

    pub length-user_part : (k : ℕ) → k < blocks_met p
        → length (user_part (patched_user sectors base p) k) ≡ USER_SIZE
    unfolding user_part patched_user
    length-user_part k below =
        let size = length-written (user_met sectors base p) p.offset (new_bytes p.edit) room in
        length-range (patched_user sectors base p) (USER_SIZE * k) (USER_SIZE * (k + 1))
        (omega arith) (omega (arith, size, length-user_met)) ∙ omega arith

    pub AreBytes-user_part : (k : ℕ) → AreBytes (user_part (patched_user sectors base p) k)
    unfolding user_part patched_user
    AreBytes-user_part k =
        AreBytes-range (with_range (user_met sectors base p) p.offset (new_bytes p.edit))
        (USER_SIZE * k) (USER_SIZE * (k + 1))
        (AreBytes-written (user_met sectors base p) p.offset (new_bytes p.edit)
        AreBytes-user_met (patch-fits p kept).each)

    -- the new user data of a block that the patch meets, by its bytes
    pub user_part-byte : (block offset : ℕ) (sector : List ℕ) → p.block ≤ block
        → block < p.block + blocks_met p → offset < USER_SIZE
        → sector_at sectors base block ≡ Some sector
        → get_or (user_part (patched_user sectors base p) (block - p.block)) offset 0
        ≡ byte_by p block offset (get_or (user_of sector) offset 0)
    unfolding user_part patched_user
    user_part-byte block offset sector from to low is =
        let place = USER_SIZE * (block - p.block) + offset in
        let inside = nat_le p.offset place && nat_lt place (p.offset + length (new_bytes p.edit)) in
        range-byte (patched_user sectors base p) (USER_SIZE * (block - p.block))
        (USER_SIZE * (block - p.block + 1)) offset (omega arith)
        ∙ written-byte (user_met sectors base p) p.offset (new_bytes p.edit) place room
        ∙ ap (λ b. if inside then get_or (new_bytes p.edit) (place - p.offset) 0 else b)
        (user_met-byte block offset sector from to low is)
        ∙ ap (λ t. if t && inside then get_or (new_bytes p.edit) (place - p.offset) 0
        else get_or (user_of sector) offset 0) (sym (le-leb p.block block from))

-- a patch leaves the bytes of the blocks that it does not meet unchanged
pub byte_by-other : (p : Patch) (block offset before : ℕ) → IsPatch p
    → (block < p.block) ⊎ (p.block + blocks_met p ≤ block) → byte_by p block offset before ≡ before
byte_by-other p block offset before kept (inl below) =
    cond-false _ _ _ (and_left _ _ (lt-leb p.block block below))
byte_by-other p block offset before kept (inr after) =
    let place = USER_SIZE * (block - p.block) + offset in
    let past : p.offset + length (new_bytes p.edit) ≤ place = omega (arith, range-inside p) in
    cond-false _ _ _
    (and_right _ _ (and_right _ _ (le-ltb place (p.offset + length (new_bytes p.edit)) past)))
