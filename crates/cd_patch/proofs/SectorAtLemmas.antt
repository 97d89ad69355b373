-- The sector of a block in lists of sectors that are joined, equal in part, or short.
use Rattle.std.proofs.Common.{◌≡◌, ℕ, ◌+◌, ◌-◌, ◌<◌, ◌≤◌, ◌⊎◌, inl, inr, List, [], ◌++◌, length, take, get_or, Some, None, sym, ap, ◌∙◌, arith, append-nil}
use Rattle.std.specs.List.{slice_get}
use Rattle.std.proofs.lemmas.Bool.{cases_lt, cond-true, cond-false, lt-ltb, le-ltb}
use Rattle.std.proofs.lemmas.Option.{slice_get_past, slice_get-get_or, none-some}
use Rattle.cd_patch.specs.Blocks.{sector_at}
use Rattle.cd_patch.proofs.general.Elements.{cases_Option, same_elements, same_take, slice_get-append_left, slice_get-append_right, slice_get-take}

pub sector_at-below : (sectors : List (List ℕ)) (base block : ℕ) → block < base
    → sector_at sectors base block ≡ None
unfolding sector_at
sector_at-below sectors base block h = cond-true _ _ _ (lt-ltb block base h)

pub sector_at-from : (sectors : List (List ℕ)) (base block : ℕ) → base ≤ block
    → sector_at sectors base block ≡ slice_get sectors (block - base)
unfolding sector_at
sector_at-from sectors base block h = cond-false _ _ _ (le-ltb block base h)

pub sector_at-add : (sectors : List (List ℕ)) (base k : ℕ)
    → sector_at sectors base (base + k) ≡ slice_get sectors k
sector_at-add sectors base k =
    let e : base + k - base ≡ k = omega arith in
    sector_at-from sectors base (base + k) (omega arith) ∙ ap (slice_get sectors) e

pub sector_at-after : (sectors : List (List ℕ)) (base block : ℕ) → base + length sectors ≤ block
    → sector_at sectors base block ≡ None
sector_at-after sectors base block h =
    sector_at-from sectors base block (omega arith)
    ∙ slice_get_past sectors (block - base) (omega arith)

pub sector_at-missing : (sectors : List (List ℕ)) (base block : ℕ)
    → (block < base) ⊎ (base + length sectors ≤ block) → sector_at sectors base block ≡ None
sector_at-missing sectors base block (inl below) = sector_at-below sectors base block below
sector_at-missing sectors base block (inr after) = sector_at-after sectors base block after

-- a block that has a sector lies within the list
pub sector_at-within : (sectors : List (List ℕ)) (base block : ℕ) (sector : List ℕ)
    → sector_at sectors base block ≡ Some sector → (base ≤ block) × (block < base + length sectors)
sector_at-within sectors base block sector e = elim (cases_lt block base) [
  | inl below ↦ absurd (none-some sector (sym (sector_at-below sectors base block below) ∙ e))
  | inr from ↦ elim (cases_lt block (base + length sectors)) [
    | inl inside ↦ (from, inside)
    | inr after ↦ absurd (none-some sector (sym (sector_at-after sectors base block after) ∙ e))
  ]
]

pub sector_at-some : (sectors : List (List ℕ)) (base block : ℕ) → base ≤ block
    → block < base + length sectors
    → sector_at sectors base block ≡ Some (get_or sectors (block - base) [])
sector_at-some sectors base block from inside =
    sector_at-from sectors base block from
    ∙ slice_get-get_or sectors (block - base) [] (omega arith)

-- a list of the same length has a sector if the other list has one
pub sector_at-other : (sectors others : List (List ℕ)) (base block : ℕ) (sector : List ℕ)
    → length others ≡ length sectors → sector_at sectors base block ≡ Some sector
    → (other : List ℕ) × (sector_at others base block ≡ Some other)
sector_at-other sectors others base block sector same e =
    let within = sector_at-within sectors base block sector e in
    (get_or others (block - base) [], sector_at-some others base block within.0 (omega arith))

-- a list of the same length has no sector if the other list has none
pub sector_at-none : (sectors others : List (List ℕ)) (base block : ℕ)
    → length others ≡ length sectors → sector_at sectors base block ≡ None
    → sector_at others base block ≡ None
sector_at-none sectors others base block same e =
    elim (cases_Option (sector_at others base block)) [
      | inl none ↦ none
      | inr some ↦
          let other = sector_at-other others sectors base block some.0 (sym same) some.1 in
          absurd (none-some other.0 (sym e ∙ other.1))
    ]

-- ---- two joined lists

pub sector_at-front : (front others : List (List ℕ)) (base block : ℕ) → block < base + length front
    → sector_at (front ++ others) base block ≡ sector_at front base block
sector_at-front front others base block h = elim (cases_lt block base) [
  | inl below ↦
      sector_at-below (front ++ others) base block below
      ∙ sym (sector_at-below front base block below)
  | inr from ↦
      sector_at-from (front ++ others) base block from
      ∙ slice_get-append_left front others (block - base) (omega arith)
      ∙ sym (sector_at-from front base block from)
]

pub sector_at-back : (front others : List (List ℕ)) (base middle block : ℕ)
    → middle ≡ base + length front → middle ≤ block
    → sector_at (front ++ others) base block ≡ sector_at others middle block
sector_at-back front others base middle block e h =
    sector_at-from (front ++ others) base block (omega arith)
    ∙ slice_get-append_right front others (block - middle) (block - base) (omega arith)
    ∙ sym (sector_at-from others middle block h)

-- a part of a list has the sectors of its blocks, and also of the blocks after it if nothing
-- follows the part
pub sector_at-frame : (front window more : List (List ℕ)) (base middle block : ℕ)
    → middle ≡ base + length front → middle ≤ block
    → (block < middle + length window) ⊎ (more ≡ [])
    → sector_at (front ++ (window ++ more)) base block ≡ sector_at window middle block
sector_at-frame front window more base middle block e from (inl inside) =
    sector_at-back front (window ++ more) base middle block e from
    ∙ sector_at-front window more middle block inside
sector_at-frame front window more base middle block e from (inr none) =
    sector_at-back front (window ++ more) base middle block e from
    ∙ ap (λ l. sector_at l middle block) (ap (λ l. window ++ l) none ∙ append-nil window)

-- ---- equal sectors

-- lists with equal sectors at each block are equal
pub same_sectors : (old new : List (List ℕ)) (base : ℕ)
    → ((block : ℕ) → sector_at new base block ≡ sector_at old base block) → new ≡ old
same_sectors old new base h =
    same_elements new old
    (λ k. sym (sector_at-add new base k) ∙ h (base + k) ∙ sector_at-add old base k)

-- lists with equal sectors below a block have equal fronts
pub same_front : (old new : List (List ℕ)) (base count : ℕ)
    → ((block : ℕ) → block < base + count → sector_at new base block ≡ sector_at old base block)
    → take count new ≡ take count old
same_front old new base count h =
    same_take count new old
    (λ k below. sym (sector_at-add new base k) ∙ h (base + k) (omega arith)
    ∙ sector_at-add old base k)

pub same_front-at : (old new : List (List ℕ)) (base count : ℕ) → take count new ≡ take count old
    → (block : ℕ) → block < base + count
    → sector_at new base block ≡ sector_at old base block
same_front-at old new base count e block h = elim (cases_lt block base) [
  | inl below ↦ sector_at-below new base block below ∙ sym (sector_at-below old base block below)
  | inr from ↦
      sector_at-from new base block from
      ∙ sym (slice_get-take count new (block - base) (omega arith))
      ∙ ap (λ l. slice_get l (block - base)) e
      ∙ slice_get-take count old (block - base) (omega arith)
      ∙ sym (sector_at-from old base block from)
]
