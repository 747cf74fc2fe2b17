pub mod Crc
pub mod Pairs
pub mod Polynomial
