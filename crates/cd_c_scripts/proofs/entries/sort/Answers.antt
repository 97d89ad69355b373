use Rattle.std.proofs.Common.{rules}
use Rattle.std.proofs.lemmas.List.Sorted.{IsNonDecreasingBy-from_sort, answers_always}
use Rattle.cd_c_scripts.specs.Entries.{entry_key}
use Rattle.cd_c_scripts.proofs.entries.sort.Goals as goal

pub returns-clause-sorted : goal.returns-clause-sorted
returns-clause-sorted c =
    IsNonDecreasingBy-from_sort entry_key _
    (c.sort_unstable_by_key.ensures.sorted entry_key
    (answers_always _ _ _ (λ f a r g h. search rules)))
