pub mod Words
pub mod Pairs
pub mod Cells
