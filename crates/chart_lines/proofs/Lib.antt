mod Joining
mod Limits
mod Somewhere
mod Reporting
mod WitnessPoints
mod Apart
mod After
