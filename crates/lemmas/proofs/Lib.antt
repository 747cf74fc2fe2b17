pub mod Cases
pub mod Options
pub mod Pairs
pub mod Places
pub mod Prefixes
