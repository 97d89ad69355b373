pub mod Laws
pub mod ParityChanges
pub mod Writing
