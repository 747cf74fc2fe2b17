pub mod Insns
pub mod Items
pub mod Images
