pub mod Histories
pub mod Published
pub mod Laws
pub mod Codes
pub mod Staged
pub mod Lending
