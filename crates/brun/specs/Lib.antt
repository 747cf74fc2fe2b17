pub mod Refinement
pub mod Words
pub mod Effects
pub mod Simulation
pub mod Runs
pub mod Pauses
