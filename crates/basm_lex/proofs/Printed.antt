pub mod Plain
pub mod Numerals
pub mod Splits
pub mod Texts
pub mod Words
pub mod Insns
