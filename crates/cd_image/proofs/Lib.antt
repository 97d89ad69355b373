pub mod AdvanceLemmas
pub mod ApplyLemmas
pub mod ApplyReportLemmas
pub mod CloseLemmas
pub mod KnownLemmas
pub mod PassingLemmas
pub mod RunningLemmas
pub mod general
