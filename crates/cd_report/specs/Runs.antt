-- The maximal runs of neighbours of the same kind.
use Rattle.std.specs.Prelude.{◌≡◌, ◌≢◌, ℕ, ◌==◌, ◌+◌, ◌<◌, Bool, if◌then◌else◌, List, [], ◌∷◌}
use Rattle.std.specs.Prelude.{replicate}
use Rattle.std.specs.List.{flat_map}
use Rattle.cd_sector.specs.Kind.{kind_number}
use Rattle.cd_sector.specs.declared.kinds.SectorKind.{SectorKind}

-- `count` sectors of one kind
pub record Run : Type 0 where
  pub kind : SectorKind
  pub count : ℕ

-- whether two kinds are the same
abbrev pub same_kind : SectorKind → SectorKind → Bool
same_kind a b = kind_number a == kind_number b

-- runs with one more sector before them: it joins the first run if it is of the same kind
abbrev pub prepend_kind : SectorKind → List Run → List Run
prepend_kind kind [] = record { kind = kind; count = 1 } ∷ []
prepend_kind kind (run ∷ others) =
    if same_kind kind run.kind then record { kind = kind; count = run.count + 1 } ∷ others
    else record { kind = kind; count = 1 } ∷ run ∷ others

-- the runs of a list of kinds
abbrev pub runs : List SectorKind → List Run
runs [] = []
runs (kind ∷ others) = prepend_kind kind (runs others)

-- the list of kinds that runs represent
abbrev pub kinds_of : List Run → List SectorKind
kinds_of rs = flat_map (λ run. replicate run.count run.kind) rs

-- no run is empty, and none could be joined with its neighbour
abbrev pub AreMaximal : List Run → Type 0
AreMaximal [] = Unit {0}
AreMaximal (run ∷ []) = 0 < run.count
AreMaximal (run ∷ next ∷ others) =
    (0 < run.count) × (run.kind ≢ next.kind) × AreMaximal (next ∷ others)

-- the runs of a list of kinds give the list when they are expanded, and are maximal; no other runs
-- do both
abbrev pub RunsSpellKinds : Type 0
RunsSpellKinds =
    (kinds : List SectorKind) → (kinds_of (runs kinds) ≡ kinds) × AreMaximal (runs kinds)
    × ((rs : List Run) → kinds_of rs ≡ kinds → AreMaximal rs → rs ≡ runs kinds)
