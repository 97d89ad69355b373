pub mod Applying
pub mod Passing
pub mod Running
