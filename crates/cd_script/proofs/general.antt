-- Lemmas that do not mention anything of this crate.
pub mod Lines
