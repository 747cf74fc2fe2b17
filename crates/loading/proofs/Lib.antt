pub mod Commands
pub mod Passed
pub mod Bytes
pub mod Staged
pub mod Verdicts
pub mod Loads
