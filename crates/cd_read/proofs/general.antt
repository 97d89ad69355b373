-- Lemmas that use no definition of this crate.
pub mod KnownBytes
