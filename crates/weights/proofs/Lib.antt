pub mod Summing
pub mod Bounded
