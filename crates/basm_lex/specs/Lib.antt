pub mod Laws
pub mod Lines
pub mod Mnemonics
pub mod Names
pub mod Numbers
pub mod Operands
pub mod Printed
