pub mod Marks
pub mod StackWords
pub mod Spill
pub mod Bits
