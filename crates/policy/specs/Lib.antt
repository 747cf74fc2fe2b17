pub mod Compiled
pub mod Code
pub mod Meant
