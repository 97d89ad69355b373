-- Lemmas that do not mention anything of this crate.
pub mod Chunks
pub mod Counts
