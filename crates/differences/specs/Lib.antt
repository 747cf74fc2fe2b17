pub mod Steps
pub mod Gains
pub mod Joined
