pub mod Bits
pub mod Cuts
pub mod Lying
pub mod Apart
pub mod Searching
pub mod Filling
pub mod Within
