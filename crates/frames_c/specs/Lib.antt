pub mod Held
pub mod Taking
pub mod Whole
pub mod Numbers
pub mod Calls
