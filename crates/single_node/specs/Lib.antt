pub mod Nodes
pub mod Serving
pub mod Judging
pub mod Running
pub mod Slots
