pub mod Ends
pub mod Messages
pub mod Printing
pub mod Reading
pub mod Status
