pub mod EndLemmas
pub mod KnownLemmas
pub mod PrintingLemmas
pub mod general
