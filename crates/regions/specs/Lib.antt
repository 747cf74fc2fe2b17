pub mod Points
pub mod ByteSets
pub mod Regions
pub mod Spans
pub mod Questions
pub mod Cells
