use Rattle.std.proofs.Common.{◌≡◌, ℕ, ◌≤◌, List, length}
use Rattle.std.specs.List.{count_by}
use Rattle.cd_code.specs.CodeWords.{SumsOf}
use Rattle.cd_sector.specs.Defect.{all_syndromes, is_broken}
use Rattle.cd_sector.proofs.defects.count_broken.Given as goal

abbrev pub invariant-loop-i : goal.invariant-loop-i
invariant-loop-i l = record {
  most : l.number ≤ l.i;
  counts : (word : ℕ → List ℕ) → SumsOf word (length l.plain) l.plain l.weighted
      → l.number ≡ count_by is_broken (all_syndromes word l.i);
}
