pub mod Spelling
pub mod Faults
pub mod Reading
pub mod Text
pub mod Bits
pub mod Flow
pub mod Laws
