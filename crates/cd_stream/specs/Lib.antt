pub mod Adapters
pub mod Buffering
pub mod Fresh
pub mod Stream
pub mod Transfer
