mod BaseLemmas
mod EntryLemmas
mod IndexLemmas
mod IndexSteps
mod OrderedLemmas
mod PatchLineLemmas
mod PieceLemmas
