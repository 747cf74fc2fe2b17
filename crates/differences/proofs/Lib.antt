pub mod Stepping
pub mod Gaining
pub mod Saying
