pub mod Classes
pub mod Weights
