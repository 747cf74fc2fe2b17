pub mod Fault
pub mod Parts
pub mod Program
pub mod Reading
pub mod Version
pub mod Weight
pub mod Laws
