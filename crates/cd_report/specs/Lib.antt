pub mod AuditText
pub mod Lines
pub mod ListText
pub mod OpenRun
pub mod Report
pub mod Running
pub mod Runs
pub mod Scanning
