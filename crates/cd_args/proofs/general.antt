-- Lemmas on arguments that do not mention anything of this crate.
pub mod Rows
