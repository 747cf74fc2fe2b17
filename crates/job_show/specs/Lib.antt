pub mod ShowJob
pub mod Shown
pub mod ShownLines
