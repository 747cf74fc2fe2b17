pub mod Opcodes
pub mod Codes
pub mod Kinds
pub mod Sizes
pub mod Operands
pub mod Text
