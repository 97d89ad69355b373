-- The order in which patches are applied.
use Rattle.std.specs.Prelude.{◌≡◌, ℕ, ◌==◌, nat_le, Bool, List, [], ◌∷◌, filter, if◌then◌else◌}
use Rattle.std.specs.List.Sorted.{IsNonDecreasingBy, IsPermutation}
use Rattle.cd_script.specs.PatchForm.{Patch}

-- inserts p before the first patch whose block is not below that of p, or at the end
unfoldable pub insert_patch : Patch → List Patch → List Patch
insert_patch p [] = p ∷ []
insert_patch p (q ∷ qs) = if nat_le p.block q.block then p ∷ q ∷ qs else q ∷ insert_patch p qs

-- the lowest block first, patches of one block as in the script
unfoldable pub order : List Patch → List Patch
order [] = []
order (p ∷ ps) = insert_patch p (order ps)

-- whether a patch begins in this block
abbrev pub stands_in : ℕ → Patch → Bool
stands_in block p = p.block == block

-- the blocks never decrease along the order
abbrev pub OrderRises : Type 0
OrderRises = (ps : List Patch) → IsNonDecreasingBy (λ p. p.block) (order ps)

-- the patches of any one block are those of the script, in the script's order
abbrev pub OrderKeepsTies : Type 0
OrderKeepsTies =
    (ps : List Patch) (block : ℕ)
    → filter (stands_in block) (order ps) ≡ filter (stands_in block) ps

-- the order is a permutation of the patches of the script
abbrev pub OrderPermutes : Type 0
OrderPermutes = (ps : List Patch) → IsPermutation ps (order ps)
