pub mod Refusals
pub mod Justified
pub mod Operations
pub mod Resolved
pub mod Unjustified
pub mod Reported
pub mod Costs
pub mod Laws
