pub mod Logs
pub mod Counting
pub mod Seats
