pub mod Messages
pub mod Program
