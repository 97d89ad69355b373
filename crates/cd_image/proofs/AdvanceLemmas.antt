-- One step of a run, in terms of all patches.
use Rattle.std.proofs.Common.{◌≡◌, ℕ, ◌+◌, ◌≤◌, ◌⊎◌, inl, inr, Bool, List, length, take, sym, subst, arith}
use Rattle.std.specs.Prelude.{All}
use Rattle.std.proofs.lemmas.List.{length-take-le}
use Rattle.cd_script.specs.PatchForm.{Patch}
use Rattle.cd_sector.specs.Image.{base_limit, sector_limit}
use Rattle.cd_image.specs.Applying.{Streams}
use Rattle.cd_image.specs.Passing.{HoldsInvariant}
use Rattle.cd_run.specs.Steps.{WantsMore}
use Rattle.cd_run.proofs.PlaceLemmas.{none_open}
use Rattle.cd_run.specs.declared.run.PatchRun.{PatchRun}

-- nothing was read, or no remaining patch begins before the front block
pub begun : {carry : Bool} {base : ℕ} {start now : Streams} {taken left : List Patch}
    (run : PatchRun) (hand : List (List ℕ)) → HoldsInvariant carry taken left base start now run hand
    → ((run.sectors ≡ 0) × (run.stage ≡ 0)) ⊎ All (λ p. run.block ≤ p.block) left
begun run hand g = elim g.state.ahead [
  | inl none ↦ inl (none.0, none_open run.stage _ none.1)
  | inr past ↦ inr past
]

-- a sector has to be read, in terms of the sectors in hand
pub wants_window : {left : List Patch} {block : ℕ} (places : List (List ℕ)) (held : ℕ)
    → held ≤ length places → WantsMore left block held
    → WantsMore left block (length (take held places))
wants_window {left} {block} places held within wants =
    subst (WantsMore left block) (sym (length-take-le held places within)) wants

-- ---- the bounds of the numbers of a run

pub record Bounds (start now : Streams) (run : PatchRun) : Type 0 where
  pub reads : now.image.failures ≡ start.image.failures
  pub writes : now.out.failures ≡ start.out.failures
  pub logs : now.log.failures ≡ start.log.failures
  pub block : run.block ≤ base_limit + sector_limit

pub bounds : {carry : Bool} {base : ℕ} {start now : Streams} {taken left : List Patch}
    (run : PatchRun) (hand : List (List ℕ)) → base ≤ base_limit
    → HoldsInvariant carry taken left base start now run hand → Bounds start now run
bounds run hand low g = omega arith
