use Rattle.std.proofs.Common.{◌≡◌, ◌≤◌, ◌-◌, ◌+◌, drop, length}
use Rattle.std.specs.Str.Lines.{lines}
use Rattle.cd_c_scripts.specs.Bases.{first_other}
use Rattle.cd_c_scripts.proofs.bases.first_other.Given as goal

abbrev pub invariant-loop-line : goal.invariant-loop-line
invariant-loop-line l = record {
  within : l.start ≤ length l.script;
  number : l.number ≤ l.start;
  left : first_other l.base 1 (lines l.script) ≡ first_other l.base (l.number + 1) (lines (drop l.start l.script));
}

abbrev pub decreases-loop-line : goal.decreases-loop-line
decreases-loop-line l = length l.script - l.start
