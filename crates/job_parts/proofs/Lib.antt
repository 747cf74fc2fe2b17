mod Decimals
mod FactoryImage
mod FactoryJustified
mod HexLanes
pub mod HexText
mod InTurn
mod Joined
pub mod MapLists
mod ReplyLines
