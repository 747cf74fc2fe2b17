pub mod Lists
pub mod Counted
pub mod Raised
pub mod Steps
pub mod Places
pub mod CellsOfWords
