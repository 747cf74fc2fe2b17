pub mod CommandCodes
pub mod Loads
pub mod ReplyReading
pub mod Seeing
pub mod Writing
pub mod Laws
pub mod LoadPackets
