-- Lemmas that do not mention anything of this crate.
pub mod Lists
pub mod Tables
pub mod Xor
