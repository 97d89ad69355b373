use Rattle.cd_lanes.specs.DiagonalSteps.{SumsUpTo}
use Rattle.cd_lanes.proofs.diagonals.Diagonals.steady.Given as goal

abbrev pub invariant-loop-step : goal.invariant-loop-step
invariant-loop-step l = SumsUpTo l.bytes l.self.top l.step l.sums.plain l.sums.weighted
