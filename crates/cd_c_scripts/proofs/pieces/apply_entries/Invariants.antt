use Rattle.std.proofs.Common.{◌≡◌, length}
use Rattle.cd_c_scripts.specs.Pieces.{IsDone}
use Rattle.cd_c_scripts.proofs.pieces.apply_entries.Given as goal

abbrev pub invariant-loop-place : goal.invariant-loop-place
invariant-loop-place l = record {
  size : length l.answers ≡ length l.fn.answers;
  done : IsDone l.script l.version l.flags l.base l.first l.is_last l.entries l.place l.fn.sectors l.sectors
      l.fn.answers l.answers;
}
