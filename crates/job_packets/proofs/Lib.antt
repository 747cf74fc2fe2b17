mod HexDigits
mod Instructions
mod NoOrders
mod SlotLists
