pub mod DiagonalLemmas
pub mod SumLemmas
