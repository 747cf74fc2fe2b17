pub mod Desks
pub mod Doings
