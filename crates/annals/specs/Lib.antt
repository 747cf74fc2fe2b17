pub mod Chains
pub mod Banks
pub mod Publishes
pub mod Shown
pub mod Rule
