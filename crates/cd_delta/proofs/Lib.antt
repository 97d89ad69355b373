mod AddLemmas
mod AmountLemmas
mod CarryLemmas
mod KeepLemmas
mod PlaceFacts
pub mod UserLemmas
mod WordLemmas
mod WritingLemmas
