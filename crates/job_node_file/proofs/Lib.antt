mod Digits
pub mod Joined
mod Rows
pub mod Sizes
pub mod Unprinted
