pub mod Changes
pub mod Runs
pub mod TraceJob
pub mod Judged
pub mod Traced
