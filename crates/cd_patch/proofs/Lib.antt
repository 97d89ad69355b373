pub mod AgreeLemmas
pub mod CarryLemmas
mod DecidingLemmas
pub mod ExistenceLemmas
pub mod FrameLemmas
mod HandLemmas
pub mod BySectorLemmas
pub mod BecomesLemmas
mod MeaningLemmas
mod PartLemmas
pub mod RangeLemmas
pub mod SequenceLemmas
pub mod SectorAtLemmas
mod TakingLemmas
pub mod UserLemmas
pub mod general
