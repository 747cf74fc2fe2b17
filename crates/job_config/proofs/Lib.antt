pub mod BankLimits
pub mod Chains
pub mod Contents
pub mod ContentsPaths
pub mod Each
pub mod MapLimits
pub mod Texts
