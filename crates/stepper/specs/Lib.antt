pub mod Near
pub mod Bytes
pub mod Deeds
pub mod Machine
pub mod Endings
