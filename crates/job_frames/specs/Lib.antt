pub mod Answering
pub mod FramesJob
pub mod Reported
