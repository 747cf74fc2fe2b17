mod PacketBytes
mod Charted
mod DifferAt
mod Reporting
mod Meeting
mod AskingFault
mod Addresses
