pub mod CodeWords
pub mod Edc
pub mod Field
pub mod Filling
pub mod Folding
pub mod LaneWords
pub mod Laws
pub mod Syndrome
