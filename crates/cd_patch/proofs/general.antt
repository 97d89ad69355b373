-- Lemmas that use no definition of this crate.
pub mod Elements
