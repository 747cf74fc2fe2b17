mod Apart
mod Asking
mod Driving
mod InPlace
mod Matching
mod Placing
mod ShownLines
pub mod Stopping
