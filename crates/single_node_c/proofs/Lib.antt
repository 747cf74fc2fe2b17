pub mod Values
pub mod Faults
mod Found
mod Unread
pub mod Unpublished
