pub mod Numbers
pub mod Sums
pub mod Kept
pub mod Counting
pub mod Mending
pub mod Damage
pub mod Guarded
