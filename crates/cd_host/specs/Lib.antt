pub mod Hosting
pub mod Messages
pub mod ScriptLines
