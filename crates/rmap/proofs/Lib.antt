pub mod Cuts
pub mod Replies
pub mod Fields
pub mod Masks
mod Readings
pub mod BankPlaces
pub mod LongPackets
pub mod BootRecords
