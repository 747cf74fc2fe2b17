mod LittleEndian
mod Functions
mod Nearness
pub mod Walking
