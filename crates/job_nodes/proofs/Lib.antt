pub mod Banks
mod Continuing
mod Guarding
mod LiveMaking
mod LiveTaking
mod Made
pub mod Scheduled
pub mod Simulating
mod FirstWorlds
