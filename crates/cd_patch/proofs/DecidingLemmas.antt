-- Which blocks refuse a patch, which sectors an accepted patch has found, and the bytes of joined
-- user data.
use Rattle.std.proofs.Common.{◌≡◌, ℕ, zero, suc, ◌+◌, ◌-◌, ◌*◌, ◌/◌, ◌%◌, ◌<◌, ◌≤◌, inl, inr, Bool, true, false, cond, List, [], ◌∷◌, ◌++◌, length, get_or, drop, Option, Some, None, refl, sym, ap, ap₂, subst, ◌∙◌, eq-eqb, arith}
use Rattle.std.specs.Prelude.{not, ◌&&◌, is_some, slice_get, unwrap_or}
use Rattle.std.proofs.lemmas.Bool.{cases_eq, cases_lt, ne_eqb}
use Rattle.std.proofs.lemmas.List.{get_or_append_left, get_or-append_right, get_or-drop, get_or_read, length-append, length-drop}
use Rattle.std.proofs.lemmas.Option.{get_or_from_slice_get, slice_get-get_or, slice_get_within}
use Rattle.cd_script.specs.Patch.{IsPatch}
use Rattle.cd_script.specs.PatchForm.{Patch}
use Rattle.cd_sector.proofs.DefectLemmas.{consistent-decided, mode1_decided}
use Rattle.cd_sector.specs.Consistent.{IsConsistent, consistent, is_mode1, user_of}
use Rattle.cd_sector.specs.Kind.{kind_of}
use Rattle.cd_sector.specs.declared.kinds.SectorKind.TheVariants.{Mode1}
use Rattle.cd_patch.specs.Blocks.{blocks_met, sector_at}
use Rattle.cd_patch.specs.EditMeaning.{needs_consistent, keeps_old, old_bytes}
use Rattle.cd_patch.specs.Deciding.{by_difference, either_refusal, first_difference, first_refusal, joined_user, outcome, refusal_at, user_at, user_met}
use Rattle.cd_patch.specs.Parts.{HaveUsers}
use Rattle.cd_patch.proofs.RangeLemmas.{old-fits}
use Rattle.cd_patch.proofs.SectorAtLemmas.{sector_at-add}
use Rattle.cd_patch.specs.declared.outcome.Outcome.{Outcome}
use Rattle.cd_patch.specs.declared.outcome.Outcome.TheVariants.{Applied, Damaged, Differs, NoBlock, NotMode1}

-- ---- refusals

-- a block that does not refuse has a sector of Mode 1, which is consistent if this is required
pub record IsMet (must_be_consistent : Bool) (found : Option (List ℕ)) : Type 0 where
  pub sector : List ℕ
  pub is : found ≡ Some sector
  pub mode : kind_of sector ≡ Mode1
  pub sound : must_be_consistent ≡ true → IsConsistent sector

refusal_at-none : (must_be_consistent : Bool) (block : ℕ) (found : Option (List ℕ))
    → refusal_at must_be_consistent block found ≡ None → IsMet must_be_consistent found
refusal_at-none must_be_consistent block None h = absurd cc
refusal_at-none must_be_consistent block (Some sector) h =
    let mode : is_mode1 (kind_of sector) ≡ true = grind arith in
    let sound : must_be_consistent ≡ true → consistent sector ≡ true = λ asked. grind arith in
    record {
      sector = sector;
      is = refl;
      mode = (mode1_decided (kind_of sector)).0 mode;
      sound = λ asked. (consistent-decided sector).0 (sound asked);
    }

pub first_of-none : (a b : Option Outcome) → either_refusal a b ≡ None → (a ≡ None) × (b ≡ None)
first_of-none None b h = (refl, h)
first_of-none (Some x) b h = cc

-- no block has refused
pub first_refusal-none : (ss : List (List ℕ)) (base : ℕ) (must_be_consistent : Bool)
    (first count : ℕ) → first_refusal ss base must_be_consistent first count ≡ None
    → (block : ℕ) → first ≤ block → block < first + count
    → IsMet must_be_consistent (sector_at ss base block)
first_refusal-none ss base must_be_consistent first zero h block from to = absurd (omega arith)
first_refusal-none ss base must_be_consistent first (suc count) h block from to =
    let both =
    first_of-none (refusal_at must_be_consistent first (sector_at ss base first))
    (first_refusal ss base must_be_consistent (first + 1) count) h in
    elim (cases_eq first block) [
      | inl here ↦
          subst (λ b. IsMet must_be_consistent (sector_at ss base b)) here
          (refusal_at-none must_be_consistent first (sector_at ss base first) both.0)
      | inr other ↦
          first_refusal-none ss base must_be_consistent (first + 1) count both.1 block
          (omega arith) (omega arith)
    ]

-- a refusal is not an acceptance, and it is for damage only if consistent sectors are required
abbrev pub is_refusal : Bool → Option Outcome → Bool
is_refusal must_be_consistent None = true
is_refusal must_be_consistent (Some (NoBlock block)) = true
is_refusal must_be_consistent (Some (NotMode1 block)) = true
is_refusal must_be_consistent (Some (Damaged block)) = must_be_consistent
is_refusal must_be_consistent (Some Applied) = false
is_refusal must_be_consistent (Some (Differs block offset)) = false

refusal_at-is : (must_be_consistent : Bool) (block : ℕ) (found : Option (List ℕ))
    → is_refusal must_be_consistent (refusal_at must_be_consistent block found) ≡ true
refusal_at-is must_be_consistent block None = refl
refusal_at-is must_be_consistent block (Some sector) = grind arith

either_refusal-is : (must_be_consistent : Bool) (a b : Option Outcome)
    → is_refusal must_be_consistent a ≡ true → is_refusal must_be_consistent b ≡ true
    → is_refusal must_be_consistent (either_refusal a b) ≡ true
either_refusal-is must_be_consistent None b one two = two
either_refusal-is must_be_consistent (Some r) b one two = one

pub first_refusal-is : (ss : List (List ℕ)) (base : ℕ) (must_be_consistent : Bool)
    (block count : ℕ)
    → is_refusal must_be_consistent (first_refusal ss base must_be_consistent block count) ≡ true
first_refusal-is ss base must_be_consistent block zero = refl
first_refusal-is ss base must_be_consistent block (suc count) =
    either_refusal-is must_be_consistent _ _
    (refusal_at-is must_be_consistent block (sector_at ss base block))
    (first_refusal-is ss base must_be_consistent (block + 1) count)

applied-unrefused : (must_be_consistent : Bool) (found : Option Outcome) (other : Outcome)
    → is_refusal must_be_consistent found ≡ true → unwrap_or found other ≡ Applied → found ≡ None
applied-unrefused must_be_consistent None other is h = refl
applied-unrefused must_be_consistent (Some r) other is h = let no = rw h at is in cc

-- no block has refused an accepted patch
pub unrefused : (carry : Bool) (ss : List (List ℕ)) (base : ℕ) (p : Patch)
    → outcome carry ss base p ≡ Applied
    → first_refusal ss base (needs_consistent carry p.edit) p.block (blocks_met p) ≡ None
unfolding outcome
unrefused carry ss base p h =
    applied-unrefused (needs_consistent carry p.edit) _ _
    (first_refusal-is ss base (needs_consistent carry p.edit) p.block (blocks_met p)) h

-- each block that a patch meets exists and is of Mode 1
abbrev pub AreThere : Bool → List (List ℕ) → ℕ → Patch → Type 0
AreThere carry ss base p =
    (block : ℕ) → p.block ≤ block → block < p.block + blocks_met p
    → IsMet (needs_consistent carry p.edit) (sector_at ss base block)

pub accepted-there : (carry : Bool) (ss : List (List ℕ)) (base : ℕ) (p : Patch)
    → outcome carry ss base p ≡ Applied → AreThere carry ss base p
accepted-there carry ss base p h =
    first_refusal-none ss base (needs_consistent carry p.edit) p.block (blocks_met p)
    (unrefused carry ss base p h)

-- the refusal found is the one for this patch
pub refusal-asked : (p : Patch) (carry : Bool) (ss : List (List ℕ))
    {keeps must_be_consistent : Bool} {count : ℕ} {found : Option Outcome} → found ≡ first_refusal ss p.block must_be_consistent p.block count
    → must_be_consistent ≡ (keeps && not carry) → keeps ≡ keeps_old p.edit → count ≡ blocks_met p
    → found ≡ first_refusal ss p.block (needs_consistent carry p.edit) p.block (blocks_met p)
refusal-asked p carry ss {keeps} {must_be_consistent} {count} known asked row met =
    known
    ∙ ap₂ (λ a n. first_refusal ss p.block a p.block n) (asked ∙ ap (λ b. b && not carry) row) met

-- ---- joined user data

-- each of `count` blocks from one on has its bytes of user data
abbrev pub BlocksHaveUsers : ℕ → List (List ℕ) → ℕ → ℕ → ℕ → Type 0
BlocksHaveUsers size ss base block count =
    (k : ℕ) → k < count → length (user_at (sector_at ss base (block + k))) ≡ size

users-after : (size : ℕ) (ss : List (List ℕ)) (base block count : ℕ)
    → BlocksHaveUsers size ss base block (suc count)
    → BlocksHaveUsers size ss base (block + 1) count
users-after size ss base block count h k below =
    let same : block + 1 + k ≡ block + suc k = omega arith in
    ap (λ b. length (user_at (sector_at ss base b))) same ∙ h (suc k) (omega arith)

first-user : (size : ℕ) (ss : List (List ℕ)) (base block count : ℕ)
    → BlocksHaveUsers size ss base block (suc count)
    → length (user_at (sector_at ss base block)) ≡ size
first-user size ss base block count h =
    let same : block ≡ block + 0 = omega arith in
    ap (λ b. length (user_at (sector_at ss base b))) same ∙ h 0 (omega arith)

pub length-joined : (size : ℕ) (ss : List (List ℕ)) (base block count : ℕ)
    → BlocksHaveUsers size ss base block count
    → length (joined_user ss base block count) ≡ size * count
length-joined size ss base block zero h = omega arith
length-joined size ss base block (suc count) h =
    let first = user_at (sector_at ss base block) in
    let others = joined_user ss base (block + 1) count in
    let one = first-user size ss base block count h in
    let two =
    length-joined size ss base (block + 1) count (users-after size ss base block count h) in
    let three = length-append first others in
    omega arith

-- byte j of block k in the joined user data
pub joined-byte : (size : ℕ) (ss : List (List ℕ)) (base block count : ℕ)
    → BlocksHaveUsers size ss base block count
    → (k j : ℕ) → k < count → j < size
    → get_or (joined_user ss base block count) (size * k + j) 0
    ≡ get_or (user_at (sector_at ss base (block + k))) j 0
joined-byte size ss base block zero h k j below inside = absurd (omega arith)
joined-byte size ss base block (suc count) h zero j below inside =
    let first = user_at (sector_at ss base block) in
    let others = joined_user ss base (block + 1) count in
    let one = first-user size ss base block count h in
    let place : size * 0 + j ≡ j = omega arith in
    let here : block ≡ block + 0 = omega arith in
    ap (λ n. get_or (first ++ others) n 0) place
    ∙ get_or_append_left first others 0 j (omega arith)
    ∙ ap (λ b. get_or (user_at (sector_at ss base b)) j 0) here
joined-byte size ss base block (suc count) h (suc k) j below inside =
    let first = user_at (sector_at ss base block) in
    let others = joined_user ss base (block + 1) count in
    let one = first-user size ss base block count h in
    let place : size * suc k + j - size ≡ size * k + j = omega arith in
    let there : block + 1 + k ≡ block + suc k = omega arith in
    get_or-append_right first others size (size * suc k + j) 0 one (omega arith)
    ∙ ap (λ n. get_or others n 0) place
    ∙ joined-byte size ss base (block + 1) count (users-after size ss base block count h) k j
    (omega arith) inside
    ∙ ap (λ b. get_or (user_at (sector_at ss base b)) j 0) there

-- ---- the first difference

pub first_difference-none : (place : ℕ) (bytes old : List ℕ) → length old ≤ length bytes
    → ((k : ℕ) → k < length old → get_or bytes k 0 ≡ get_or old k 0)
    → first_difference place bytes old ≡ None
first_difference-none place [] [] room same = refl
first_difference-none place (b ∷ bytes) [] room same = refl
first_difference-none place [] (o ∷ old) room same = absurd (omega arith)
first_difference-none place (b ∷ bytes) (o ∷ old) room same =
    let first : b ≡ o = same 0 (omega arith) in
    let others =
    first_difference-none (place + 1) bytes old (omega arith)
    (λ k below. same (suc k) (omega arith)) in
    ap (λ t. cond t (first_difference (place + 1) bytes old) (Some place)) (eq-eqb b o first)
    ∙ others

pub first_difference-some : (place : ℕ) (bytes old : List ℕ) (i : ℕ) → i < length old
    → i < length bytes
    → ((k : ℕ) → k < i → get_or bytes k 0 ≡ get_or old k 0)
    → (get_or bytes i 0 ≡ get_or old i 0 → ⊥)
    → first_difference place bytes old ≡ Some (place + i)
first_difference-some place bytes [] i within room same differs = absurd (omega arith)
first_difference-some place [] (o ∷ old) i within room same differs = absurd (omega arith)
first_difference-some place (b ∷ bytes) (o ∷ old) zero within room same differs =
    let here : place ≡ place + 0 = omega arith in
    ap (λ t. cond t (first_difference (place + 1) bytes old) (Some place)) (ne_eqb b o differs)
    ∙ ap (λ n. Some n) here
first_difference-some place (b ∷ bytes) (o ∷ old) (suc i) within room same differs =
    let first : b ≡ o = same 0 (omega arith) in
    let others =
    first_difference-some (place + 1) bytes old i (omega arith) (omega arith)
    (λ k below. same (suc k) (omega arith)) differs in
    let there : place + 1 + i ≡ place + suc i = omega arith in
    ap (λ t. cond t (first_difference (place + 1) bytes old) (Some place)) (eq-eqb b o first)
    ∙ others ∙ ap (λ n. Some n) there

-- ---- the sectors themselves

-- the user byte at a place in the user data of the sectors joined
abbrev pub user_byte : List (List ℕ) → ℕ → ℕ
user_byte ss place = get_or (user_of (get_or ss (place / 2048) [])) (place % 2048) 0

pub user_at-sector : (ss : List (List ℕ)) (base k : ℕ) → k < length ss
    → user_at (sector_at ss base (base + k)) ≡ user_of (get_or ss k [])
user_at-sector ss base k inside =
    ap user_at (sector_at-add ss base k ∙ slice_get-get_or ss k [] inside)

pub BlocksHaveUsers-from : (ss : List (List ℕ)) (base count : ℕ) → HaveUsers ss count
    → count ≤ length ss → BlocksHaveUsers 2048 ss base base count
BlocksHaveUsers-from ss base count users room k below =
    ap length (user_at-sector ss base k (omega arith)) ∙ users k below

-- byte `place` of the joined user data
pub joined-place : (ss : List (List ℕ)) (base count : ℕ) → HaveUsers ss count → count ≤ length ss
    → (place : ℕ) → place < 2048 * count
    → get_or (joined_user ss base base count) place 0 ≡ user_byte ss place
joined-place ss base count users room place below =
    let k = place / 2048 in
    let j = place % 2048 in
    let whole : place ≡ 2048 * k + j = omega arith in
    ap (λ n. get_or (joined_user ss base base count) n 0) whole
    ∙ joined-byte 2048 ss base base count (BlocksHaveUsers-from ss base count users room) k j
    (omega arith) (omega arith)
    ∙ ap (λ u. get_or u j 0) (user_at-sector ss base k (omega arith))

module _ (ss : List (List ℕ)) (offset : ℕ) (old : List ℕ) (base count : ℕ)
    (users : HaveUsers ss count) (room : count ≤ length ss)
    (fits : offset + length old ≤ 2048 * count) where
  abbrev from_offset : List ℕ
  from_offset = drop offset (joined_user ss base base count)

  enough : length old ≤ length from_offset
  enough =
      omega (
        arith,
        length-joined 2048 ss base base count (BlocksHaveUsers-from ss base count users room),
        length-drop offset (joined_user ss base base count),
      )

  byte_from : (k : ℕ) → k < length old → get_or from_offset k 0 ≡ user_byte ss (offset + k)
  byte_from k below =
      get_or-drop offset (joined_user ss base base count) k 0
      ∙ joined-place ss base count users room (offset + k) (omega arith)

  -- no byte differs
  pub no_difference : ((k : ℕ) → k < length old → user_byte ss (offset + k) ≡ get_or old k 0)
      → first_difference offset from_offset old ≡ None
  no_difference same =
      first_difference-none offset from_offset old enough
      (λ k below. byte_from k below ∙ same k below)

  -- byte i is the first byte that differs
  pub a_difference : (i : ℕ) → i < length old
      → ((k : ℕ) → k < i → user_byte ss (offset + k) ≡ get_or old k 0)
      → (user_byte ss (offset + i) ≡ get_or old i 0 → ⊥)
      → first_difference offset from_offset old ≡ Some (offset + i)
  a_difference i within same differs =
      first_difference-some offset from_offset old i within (omega (arith, enough))
      (λ k below. byte_from k (omega arith) ∙ same k below)
      (λ e. differs (sym (byte_from i within) ∙ e))

pub read-byte : (ss : List (List ℕ)) (place : ℕ) (sector user : List ℕ) → user ≡ user_of sector
    → place < 2048 * length ss → sector ≡ get_or ss (place / 2048) sector
    → get_or user (place % 2048) 0 ≡ user_byte ss place
read-byte ss place sector user is inside read =
    ap (λ u. get_or u (place % 2048) 0)
    (is ∙ ap user_of (get_or_read ss (place / 2048) sector (omega arith) read []))

-- ---- the search for a refusal

-- block base + k is tested, with the sector at i, and then the blocks after it
pub first_refusal-at : (ss : List (List ℕ)) (base : ℕ) (must_be_consistent : Bool)
    (k count i block : ℕ) (refusal : Option Outcome)
    → refusal ≡ refusal_at must_be_consistent block (slice_get ss i) → i ≡ k → block ≡ base + k
    → first_refusal ss base must_be_consistent (base + k) (suc count)
    ≡ either_refusal refusal (first_refusal ss base must_be_consistent (base + (k + 1)) count)
first_refusal-at ss base must_be_consistent k count i block refusal known here named =
    let next : base + k + 1 ≡ base + (k + 1) = omega arith in
    rw (known, here, named, sector_at-add ss base k, next) refl

pub either-none : (refusal other : Option Outcome) → refusal ≡ None
    → either_refusal refusal other ≡ other
either-none refusal other none = ap (λ r. either_refusal r other) none

pub either-some : (refusal other : Option Outcome) → is_some refusal ≡ true
    → either_refusal refusal other ≡ refusal
either-some None other some = cc
either-some (Some r) other some = refl

-- ---- the sectors that an accepted patch has found

-- `count` sectors of Mode 1, each consistent if this is required
pub record AreMet (must_be_consistent : Bool) (ss : List (List ℕ)) (count : ℕ) : Type 0 where
  pub enough : count ≤ length ss
  pub mode : (k : ℕ) → k < count → kind_of (get_or ss k []) ≡ Mode1
  pub sound : must_be_consistent ≡ true → (k : ℕ) → k < count → IsConsistent (get_or ss k [])

pub AreMet-from : (ss : List (List ℕ)) (base : ℕ) (must_be_consistent : Bool) (count : ℕ)
    → first_refusal ss base must_be_consistent base count ≡ None → AreMet must_be_consistent ss count
AreMet-from ss base must_be_consistent count none =
    let each : (k : ℕ) → k < count → IsMet must_be_consistent (slice_get ss k) = λ k below.
    subst (IsMet must_be_consistent) (sector_at-add ss base k)
    (first_refusal-none ss base must_be_consistent base count none (base + k) (omega arith)
    (omega arith)) in
    let here : (k : ℕ) (below : k < count) → (each k below).sector ≡ get_or ss k [] = λ k below.
    sym (get_or_from_slice_get ss k _ [] (each k below).is) in
    record {
      enough = elim (cases_lt (length ss) count) [
        | inl short ↦
            absurd (omega (arith, slice_get_within ss (length ss) _ (each (length ss) short).is))
        | inr long ↦ long
      ];
      mode = λ k below.
          subst (λ s. kind_of s ≡ Mode1) (here k below) (each k below).mode;
      sound = λ asked k below. subst IsConsistent (here k below) ((each k below).sound asked);
    }

-- ---- the outcome

pub outcome-refused : (carry : Bool) (ss : List (List ℕ)) (base : ℕ) (p : Patch) (refusal : Outcome)
    → first_refusal ss base (needs_consistent carry p.edit) p.block (blocks_met p) ≡ Some refusal
    → outcome carry ss base p ≡ refusal
unfolding outcome
outcome-refused carry ss base p refusal h = rw h refl

-- if no block refuses, the difference that was found decides
pub outcome-found : (carry : Bool) (ss : List (List ℕ)) (p : Patch) (old : List ℕ) (place : Option ℕ)
    → IsPatch p
    → first_refusal ss p.block (needs_consistent carry p.edit) p.block (blocks_met p) ≡ None
    → old ≡ old_bytes p.edit → HaveUsers ss (blocks_met p)
    → ((base count : ℕ) → HaveUsers ss count → count ≤ length ss
    → p.offset + length old ≤ 2048 * count
    → place ≡ first_difference p.offset (drop p.offset (joined_user ss base base count)) old)
    → outcome carry ss p.block p ≡ by_difference p.block place
unfolding outcome user_met
outcome-found carry ss p old place patch accepted is users value =
    let met = AreMet-from ss p.block (needs_consistent carry p.edit) (blocks_met p) accepted in
    let fits = old-fits p patch in
    let found =
    value p.block (blocks_met p) users met.enough (omega (arith, fits.0, ap length is)) in
    rw (accepted, ← is) (ap (by_difference p.block) (sym found))

pub Differs-same : (block offset block' offset' : ℕ) → block ≡ block' → offset ≡ offset'
    → Differs block offset ≡ Differs block' offset'
Differs-same block offset block' offset' one two = ap₂ Differs one two

pub Some-same : (i j : ℕ) → i ≡ j → Some i ≡ Some j
Some-same i j same = ap (λ n. Some n) same

pub none-not_some : (refusal : Option Outcome) → is_some refusal ≡ false → refusal ≡ None
none-not_some None none = refl
none-not_some (Some r) none = cc
