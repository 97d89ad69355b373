use Rattle.std.proofs.Common.{◌≡◌}
use Rattle.std.specs.Prelude.{◌++◌, take, drop}
use Rattle.cd_c.specs.Survey.{survey}
use Rattle.cd_c.proofs.surveying.cdpatch_survey.Given as goal

abbrev pub invariant-loop-i : goal.invariant-loop-i
invariant-loop-i l = l.records ≡ survey l.block (take l.i l.sectors) ++ drop l.i l.initial.records
