pub mod Given
pub mod Pieces
pub mod Reading
pub mod Written
