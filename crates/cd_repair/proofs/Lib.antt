mod ColumnLemmas
mod CorrectingLemmas
mod DiagonalLemmas
mod MergingLemmas
mod RoundLemmas
mod SyncLemmas
