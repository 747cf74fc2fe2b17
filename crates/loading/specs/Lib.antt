pub mod Asked
pub mod Sent
pub mod Served
pub mod Reported
