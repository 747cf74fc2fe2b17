pub mod Codes
pub mod Kinds
pub mod State
pub mod Offsets
pub mod Effect
pub mod Edges
pub mod Fits
pub mod Laws
