pub mod InHand
pub mod LogSize
pub mod Messages
pub mod PatchLog
pub mod Patched
pub mod Running
pub mod Steps
pub mod Underway
