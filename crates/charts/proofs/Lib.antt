pub mod Sameness
pub mod Whole
pub mod Least
pub mod Tickets
pub mod Witnesses
pub mod Admitted
pub mod RuleShapes
pub mod Reporting
pub mod Celled
pub mod Walking
pub mod LineShapes
pub mod Deciding
pub mod Meeting
pub mod Resting
pub mod Plainness
pub mod Misreporting
mod Stopping
mod Joining
