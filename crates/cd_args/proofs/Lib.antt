mod AcceptedLemmas
mod CliLemmas
mod ParseLemmas
pub mod general
