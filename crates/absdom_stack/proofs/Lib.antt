pub mod MarkSteps
pub mod WordSteps
mod MarkBits
mod MarkMasks
