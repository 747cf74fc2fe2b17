pub mod Ranges
pub mod Tables
pub mod Refinement
pub mod Laws
