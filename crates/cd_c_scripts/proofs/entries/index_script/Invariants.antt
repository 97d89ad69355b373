use Rattle.std.proofs.Common.{◌≡◌, ◌-◌, ◌≤◌, length}
use Rattle.cd_script.specs.Limits.{text_limit}
use Rattle.cd_c_scripts.proofs.IndexLemmas.{Indexing}
use Rattle.cd_c_scripts.proofs.entries.index_script.Given as goal

abbrev pub invariant-loop-line : goal.invariant-loop-line
invariant-loop-line l = record {
  short : length l.text ≤ text_limit;
  within : l.start ≤ length l.text;
  number : l.number ≤ l.start;
  count : l.found.count ≤ l.number;
  size : length l.entries ≡ length l.fn.entries;
  indexing : Indexing l.text l.found.version l.number l.found.count l.start l.entries;
}

abbrev pub decreases-loop-line : goal.decreases-loop-line
decreases-loop-line l = length l.text - l.start
