pub mod Blocks
pub mod EnoughRoom
pub mod Failures
pub mod ReportLines
pub mod Results
pub mod State
pub mod Survey
pub mod Texts
