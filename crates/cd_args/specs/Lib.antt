pub mod Arguments
pub mod CommandLine
pub mod Fault
pub mod Options
pub mod Task
