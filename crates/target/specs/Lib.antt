pub mod Passes
pub mod Steps
pub mod Nodes
pub mod Finished
pub mod Lines
pub mod Loads
pub mod Unshared
