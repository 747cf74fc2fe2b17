pub mod Zeros
mod Calls
pub mod Tickets
mod Agreeing
