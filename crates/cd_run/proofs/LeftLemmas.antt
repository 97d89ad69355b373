-- The remaining patches of a run.
use Rattle.std.proofs.Common.{◌≡◌, ℕ, zero, suc, ◌+◌, ◌<◌, ◌≤◌, List, [], ◌∷◌, ◌++◌, length, take, drop, get_or, Option, None, Some, sym, ap, ◌∙◌, subst, arith, refl, take_all}
use Rattle.std.specs.Prelude.{All, IfNone, IfSome}
use Rattle.std.specs.List.{slice_get}
use Rattle.std.specs.List.Sorted.{IsNonDecreasingBy}
use Rattle.std.proofs.Math.Seq.{drop-cons, take-suc}
use Rattle.std.proofs.lemmas.List.{get_or-drop, length-drop}
use Rattle.std.proofs.lemmas.Option.{get_or_from_slice_get, slice_get_within}
use Rattle.cd_script.specs.Patch.{IsPatch}
use Rattle.cd_script.specs.PatchForm.{Patch}
use Rattle.cd_patch.specs.Blocks.{blocks_met}
use Rattle.cd_run.specs.Steps.{IsAhead, MayDecide, WantsMore}
use Rattle.cd_run.specs.declared.run.Ahead.{Ahead}

-- the next patch comes before those after it
pub next_first : (ps : List Patch) (d : ℕ) (p : Patch) → slice_get ps d ≡ Some p
    → drop d ps ≡ p ∷ drop (suc d) ps
next_first ps d p is =
    drop-cons ps d p (slice_get_within ps d p is)
    ∙ ap (λ q. q ∷ drop (suc d) ps) (get_or_from_slice_get ps d p p is)

pub next_taken : (ps : List Patch) (d : ℕ) (p : Patch) → slice_get ps d ≡ Some p
    → take (suc d) ps ≡ take d ps ++ p ∷ []
next_taken ps d p is =
    take-suc ps d p (slice_get_within ps d p is)
    ∙ ap (λ q. take d ps ++ q ∷ []) (get_or_from_slice_get ps d p p is)

-- the next patch of a list of patches is a patch
pub is_patch : (ps : List Patch) (d : ℕ) (p : Patch) → slice_get ps d ≡ Some p → All IsPatch ps
    → IsPatch p
is_patch ps d p is each =
    subst IsPatch (get_or_from_slice_get ps d p p is) (each d p (slice_get_within ps d p is))

drop_all : (d : ℕ) (ps : List Patch) → length ps ≤ d → drop d ps ≡ []
drop_all zero [] all = refl
drop_all zero (p ∷ ps) all = absurd (omega arith)
drop_all (suc d) [] all = refl
drop_all (suc d) (p ∷ ps) all = drop_all d ps (omega arith)

-- all patches were decided
pub none_left : (ps : List Patch) (d : ℕ) → drop d ps ≡ [] → length ps ≤ d
none_left ps d none = omega (arith, length-drop d ps, ap length none)

pub all_taken : (ps : List Patch) (d : ℕ) → length ps ≤ d → (take d ps ≡ ps) × (drop d ps ≡ [])
all_taken ps d all = (take_all d ps all, drop_all d ps all)

-- the first remaining patch
pub is_ahead : {R : Type 0} (now : R → Patch) (ps : List Patch) (d block : ℕ) (patch : Option R)
    (ahead : Option Ahead) → IfSome patch (λ r. slice_get ps d ≡ Some (now r))
    → IfNone patch (length ps ≤ d)
    → IfSome patch (λ r. (a : Ahead) × (ahead ≡ Some a) × ((now r).block ≡ a.block)
    × ((now r).block ≡ block → blocks_met (now r) ≡ a.blocks_met))
    → IfNone patch (ahead ≡ None) → IsAhead (drop d ps) block ahead
is_ahead now ps d block None ahead found missing some none =
    subst (IsAhead (drop d ps) block) (sym none) (drop_all d ps missing)
is_ahead now ps d block (Some r) ahead found missing some none =
    subst (IsAhead (drop d ps) block) (sym some.1)
    (now r, drop (suc d) ps, next_first ps d (now r) found, some.2, some.3)

-- the next patch can be decided
pub decides_this : {left others : List Patch} {p : Patch} {held block sectors stage : ℕ}
    → left ≡ p ∷ others
    → (q : Patch) × (rest : List Patch) × (left ≡ q ∷ rest) × MayDecide q held block sectors stage
    → MayDecide p held block sectors stage
decides_this {p = p} {held = held} {block = block} {sectors = sectors} {stage = stage} is next =
    subst (λ q. MayDecide q held block sectors stage)
    (ap (λ l. get_or l 0 p) (sym next.2 ∙ is)) next.3

-- a sector is read where it could be copied
pub copies_none : {left : List Patch} {block held : ℕ} (count : ℕ) → held ≡ 0 → 0 < count
    → All (λ p. block + count ≤ p.block) left → WantsMore left block held
copies_none count none some ahead =
    WantsMore.none_held none (λ k d inside. omega (arith, ahead k d inside))

-- the blocks of the remaining patches are in ascending order
pub rising_left : (ps : List Patch) (d : ℕ) → IsNonDecreasingBy (λ p. p.block) ps
    → IsNonDecreasingBy (λ p. p.block) (drop d ps)
rising_left ps d rising = λ i j e before inside.
    let size = length-drop d ps in
    rw (get_or-drop, get_or-drop) (rising (d + i) (d + j) e (omega arith) (omega arith))
