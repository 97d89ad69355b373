-- The call that returns an outcome and the call for its line use the same numbers. This law is the
-- contract of `laws.rt`.
use Rattle.std.specs.Prelude.{◌≡◌, Some}
use Rattle.cd_patch.specs.OutcomeNumbers.{outcome_number, outcome_of}
use Rattle.cd_patch.specs.declared.outcome.Outcome.{Outcome}
use Rattle.cd_c_scripts.specs.Outcomes.{place_after}
use Rattle.cd_c_scripts.specs.declared.patches.Place.{Place}

-- the number of an outcome, and its place, give this outcome again
abbrev pub OutcomesAreRead : Type 0
OutcomesAreRead =
    (o : Outcome) (place : Place)
    → outcome_of (outcome_number o) (place_after o place).block (place_after o place).offset ≡ Some o
